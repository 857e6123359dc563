use Rattle.std.proofs.Common.{◌≡◌, take}
use Rattle.ov_read.specs.Gathering.{numbers_at}
use Rattle.ov_read.proofs.grouping.vids_at.Given as goal

abbrev pub invariant-loop-place : goal.invariant-loop-place
invariant-loop-place l = l.found.items ≡ numbers_at l.vids (take l.place-index l.group)
