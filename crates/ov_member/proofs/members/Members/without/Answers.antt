use Rattle.ov_member.proofs.EdgeLemmas.{RiseFrom-between}
use Rattle.ov_member.proofs.WalkLemmas.{is_made}
use Rattle.ov_member.proofs.SetLemmas.{left_out_made}
use Rattle.ov_member.proofs.members.Members.without.Goals as goal

pub returns : goal.returns
returns c =
    let turns = rw (c.deref.ensures.value, c.deref-2.ensures.value) at c.in_ok-edges.ensures in
    let made = is_made _ _ _ _ c.self.invariant c.other.invariant turns in
    record {
      set = RiseFrom-between 0 _ made.sound.ascend;
      members = rw (← c.self.view_is, ← c.other.view_is) (left_out_made _ _ _ c.self.invariant c.other.invariant turns);
    }
