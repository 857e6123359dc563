use Rattle.std.proofs.Common.{take}
use Rattle.ov_copies.proofs.Passing.{HasPassed}
use Rattle.ov_copies.proofs.gathering.gather.Given as goal

abbrev pub invariant-loop-part : goal.invariant-loop-part
invariant-loop-part g l = HasPassed (g.H.Host.state l.fn.host) (g.H.Host.state l.host) l.d l.versions l.lists l.rids (take l.part-index l.parts) l.left l.found
