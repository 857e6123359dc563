use Rattle.std.proofs.Common.{◌≡◌, take}
use Rattle.ov_terms.specs.Finding.{verdicts}
use Rattle.ov_terms.proofs.table.Table.verdicts.Given as goal

-- what WHERE says of the rows before
abbrev pub invariant-loop-place : goal.invariant-loop-place
invariant-loop-place l = l.made.items ≡ verdicts l.guard (take l.place l.self)
