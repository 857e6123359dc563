use Rattle.std.proofs.Common.{◌≡◌, ℕ, ◌<◌, ◌≤◌, ◌-◌, false, length, get_or}
use Rattle.ov_lex.specs.Spellings.{is_double_quote}
use Rattle.ov_lex.proofs.spellings.unquoted.Given as goal

abbrev pub invariant-loop-n : goal.invariant-loop-n
invariant-loop-n l = record { in_range : l.n ≤ length l.bytes; passed : (k : ℕ) → k < l.n → is_double_quote (get_or l.bytes k 0) ≡ false }

abbrev pub decreases-loop-n : goal.decreases-loop-n
decreases-loop-n l = length l.bytes - l.n
