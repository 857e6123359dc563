use Rattle.std.proofs.Common.{subst, arith}
use Rattle.ov_member.specs.Rids.{AreRids}
use Rattle.ov_member.proofs.EdgeLemmas.{RiseFrom-between, count-bound}
use Rattle.ov_member.proofs.members.Members.len.Goals as goal

pub returns-clause-at_most : goal.returns-clause-at_most
returns-clause-at_most c =
    let counted = rw c.deref.ensures.value at c.count.ensures in
    omega (arith, counted, count-bound _ c.self.invariant.ascend)

pub returns-clause-set : goal.returns-clause-set
returns-clause-set c = subst AreRids c.self.view_is (RiseFrom-between 0 _ c.self.invariant.ascend)
