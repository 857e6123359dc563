use Rattle.std.proofs.Common.{ℕ, List, length, ap, ◌∙◌}
use Rattle.ov_member.proofs.SetLemmas.{shared_made}
use Rattle.ov_member.proofs.members.Members.common.Goals as goal

pub returns : goal.returns
returns c =
    let made = rw (c.deref.ensures.value, c.deref-2.ensures.value) at c.count_made.ensures in
    rw (← c.self.view_is, ← c.other.view_is) (made.2 ∙ ap (λ (rids : List ℕ). length rids) (shared_made _ _ made.0 c.self.invariant c.other.invariant made.1))
