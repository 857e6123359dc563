use Rattle.std.proofs.Common.{List, ℕ, sym, ◌∙◌, subst}
use Rattle.ov_member.specs.Edges.{Ascend}
use Rattle.ov_member.proofs.EdgeLemmas.{RiseFrom-between}
use Rattle.ov_member.proofs.members.Members.copy.Goals as goal

pub returns-clause-set : goal.returns-clause-set
returns-clause-set c =
    RiseFrom-between 0 c.in_ok-edges.edges.items
    (subst (λ (edges : List ℕ). Ascend 0 edges) (sym (c.in_ok-edges.ensures.items ∙ c.deref.ensures.value)) c.self.invariant.ascend)
