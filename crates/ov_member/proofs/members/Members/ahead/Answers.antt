use Rattle.std.proofs.Common.{sym}
use Rattle.ov_member.proofs.OddLemmas.{closed_even}
use Rattle.ov_member.proofs.EdgeLemmas.{has-between}
use Rattle.ov_member.proofs.members.Members.ahead.Goals as goal

pub returns : goal.returns
returns c n =
    rw (c.before-2.ensures.inside, c.before-2.ensures.edges, c.deref.ensures.value, ← c.self.view_is) (sym (has-between 0 _ n c.self.invariant.ascend c.self.invariant.closed))

pub before-requires-clause-even : goal.before-requires-clause-even
before-requires-clause-even c = rw c.deref.ensures.value (closed_even _ c.self.invariant.closed)
