use Rattle.std.proofs.Common.{◌≡◌, take, length}
use Rattle.ov_value.specs.Spelling.{kept}
use Rattle.ov_value.proofs.kept.kept_len.Given as goal

abbrev pub invariant-loop-i : goal.invariant-loop-i
invariant-loop-i l = l.len ≡ length (kept (take l.i l.values))
