use Rattle.ov_read.specs.Gathering.{AreFull}
use Rattle.ov_read.proofs.picking.place_short.Given as goal

abbrev pub invariant-loop-place : goal.invariant-loop-place
invariant-loop-place l = AreFull l.place l.picks l.members
