-- What a walk has made is the set that was asked for.
use Rattle.std.proofs.Common.{◌≡◌, ℕ, false, not, List, sym, ◌∙◌}
use Rattle.ov_member.specs.declared.walk.Rule.TheVariants.{Either, LeftOnly, Both}
use Rattle.ov_member.specs.Rids.{has, shared, left_out, IsUnion}
use Rattle.ov_member.specs.Edges.{AreEdges, rids_between}
use Rattle.ov_member.specs.Walks.{AreTurns}
use Rattle.ov_member.proofs.RidLemmas.{same_from, RiseFrom-filter, has-filter}
use Rattle.ov_member.proofs.EdgeLemmas.{RiseFrom-between}
use Rattle.ov_member.proofs.WalkLemmas.{is_made}

pub union_made : (left right edges : List ℕ) → AreEdges left → AreEdges right → AreTurns Either false left false right edges → IsUnion (rids_between left) (rids_between right) (rids_between edges)
union_made left right edges h k turned = let made = is_made Either left right edges h k turned in record { rids = RiseFrom-between 0 edges made.sound.ascend; members = made.members }

pub left_out_made : (left right edges : List ℕ) → AreEdges left → AreEdges right → AreTurns LeftOnly false left false right edges → rids_between edges ≡ left_out (rids_between left) (rids_between right)
left_out_made left right edges h k turned =
    let made = is_made LeftOnly left right edges h k turned in
    let out = λ (n : ℕ). not (has (rids_between right) n) in
    same_from 1 1 _ _ (RiseFrom-between 0 edges made.sound.ascend) (RiseFrom-filter out 1 (rids_between left) (RiseFrom-between 0 left h.ascend)) (λ n. made.members n ∙ sym (has-filter out (rids_between left) n))

pub shared_made : (left right edges : List ℕ) → AreEdges left → AreEdges right → AreTurns Both false left false right edges → rids_between edges ≡ shared (rids_between left) (rids_between right)
shared_made left right edges h k turned =
    let made = is_made Both left right edges h k turned in
    let too = has (rids_between right) in
    same_from 1 1 _ _ (RiseFrom-between 0 edges made.sound.ascend) (RiseFrom-filter too 1 (rids_between left) (RiseFrom-between 0 left h.ascend)) (λ n. made.members n ∙ sym (has-filter too (rids_between left) n))
