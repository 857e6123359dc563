use Rattle.std.proofs.Common.{take}
use Rattle.std.specs.List.{AllZip}
use Rattle.ov_parents.specs.Taking.{StandAt}
use Rattle.ov_parents.proofs.taking.copies_of.Given as goal

abbrev pub invariant-loop-pick : goal.invariant-loop-pick
invariant-loop-pick l = AllZip (StandAt l.records) (take l.pick-index l.picks) l.tables.items
