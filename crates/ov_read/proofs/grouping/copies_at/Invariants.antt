use Rattle.std.proofs.Common.{◌≡◌, take}
use Rattle.ov_read.specs.Gathering.{sets_at}
use Rattle.ov_read.proofs.grouping.copies_at.Given as goal

abbrev pub invariant-loop-place : goal.invariant-loop-place
invariant-loop-place l = l.found.items ≡ sets_at l.lists (take l.place-index l.group)
