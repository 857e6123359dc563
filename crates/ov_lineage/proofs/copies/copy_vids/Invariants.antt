use Rattle.std.proofs.Common.{◌≡◌, take}
use Rattle.ov_lineage.proofs.copies.copy_vids.Given as goal

abbrev pub invariant-loop-vid : goal.invariant-loop-vid
invariant-loop-vid l = l.made ≡ take l.vid-index l.vids
