use Rattle.std.proofs.Common.{[]}
use Rattle.std.proofs.lemmas.List.{append-nil}
use Rattle.ov_member.proofs.walk.made.Goals as goal

pub returns : goal.returns
returns c = rw append-nil at (c.loop-edge.invariant [] c.in_default.ensures.turns)
