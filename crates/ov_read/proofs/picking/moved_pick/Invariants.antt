use Rattle.std.proofs.Common.{◌≡◌, take}
use Rattle.ov_read.specs.Gathering.{moved}
use Rattle.ov_read.proofs.picking.moved_pick.Given as goal

abbrev pub invariant-loop-place : goal.invariant-loop-place
invariant-loop-place l = l.places.items ≡ moved l.base (take l.place-index l.pick)
