use Rattle.ov_member.proofs.SetLemmas.{union_made}
use Rattle.ov_member.proofs.members.Members.union.Goals as goal

pub returns : goal.returns
returns c =
    let turns = rw (c.deref.ensures.value, c.deref-2.ensures.value) at c.in_ok-edges.ensures in
    rw (← c.self.view_is, ← c.other.view_is) (union_made _ _ _ c.self.invariant c.other.invariant turns)
