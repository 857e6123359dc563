use Rattle.std.proofs.Common.{take}
use Rattle.ov_open.specs.Building.{FirstIs}
use Rattle.ov_open.proofs.missing.first_missing.Given as goal

abbrev pub invariant-loop-extent : goal.invariant-loop-extent
invariant-loop-extent l = FirstIs l.missing (take l.extent-index l.extents) l.there
