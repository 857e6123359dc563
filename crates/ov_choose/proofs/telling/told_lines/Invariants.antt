use Rattle.std.proofs.Common.{◌≡◌, map, take}
use Rattle.law_budget.specs.Told.{told}
use Rattle.ov_choose.proofs.telling.told_lines.Given as goal

abbrev pub invariant-loop-line : goal.invariant-loop-line
invariant-loop-line l = l.shown.items ≡ map told (take l.line-index l.lines)
