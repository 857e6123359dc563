use Rattle.std.proofs.Common.{◌≡◌, ◌-◌, ◌≤◌, length, drop}
use Rattle.ov_lex.specs.Scans.{closing}
use Rattle.ov_lex.proofs.Scan.{later}
use Rattle.ov_lex.proofs.spellings.closing_len.Given as goal

abbrev pub invariant-loop-at : goal.invariant-loop-at
invariant-loop-at l = record { in_range : l.at ≤ length l.bytes; so_far : later l.at l.last (closing (drop l.at l.bytes)) ≡ closing l.bytes }

abbrev pub decreases-loop-at : goal.decreases-loop-at
decreases-loop-at l = length l.bytes - l.at
