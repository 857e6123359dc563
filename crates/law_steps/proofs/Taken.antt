-- In each World that moves reach, what is missing comes behind what was copied.
use Rattle.std.proofs.Common.{◌≡◌, List, [], ◌∷◌, length, drop, refl, sym, ◌∙◌, ap, subst, inl, inr}
use Rattle.std.specs.Prelude.{Some}
use Rattle.ov_model.specs.Lists.{IsIn, joined}
use Rattle.ov_model.specs.Plans.{missing_of, missing, current}
use Rattle.ov_model.specs.World.{Plan, Dataset, World, empty_world_of}
use Rattle.law_partitions.specs.Pieces.{HasPieces, ArePieces, IsUnderWay, PlanIsUnderWay}
use Rattle.ov_catalog.specs.Reached.{ByMove, Leads, MayPass, OldCheckpoint, Past, Reached, passed}
use Rattle.ov_catalog.proofs.Good.{IsGood, good, good_passed}
use Rattle.law_steps.proofs.Lacking.{drop_front}
use Rattle.law_steps.proofs.Taking.{IsTaken, PlanIsTaken, AreTaken, goes_on, moved_taken}

passed_taken : (p : Past) (w : World) → MayPass p w → IsGood w → AreTaken w.sets → AreTaken (passed p w).sets
passed_taken (ByMove m) w may is taken = moved_taken m w is.sound.placed is.sound.pieces taken
passed_taken OldCheckpoint w may is taken = taken

leads_taken : (ps : List Past) (v w : World) → Leads v ps w → IsGood v → AreTaken v.sets → AreTaken w.sets
leads_taken [] v w leads is taken = subst (λ x. AreTaken x.sets) leads taken
leads_taken (p ∷ ps) v w leads is taken = leads_taken ps (passed p v) w leads.1 (good_passed p v leads.0 is) (passed_taken p v leads.0 is taken)

all_taken : (w : World) → Reached w → AreTaken w.sets
all_taken w reached =
    leads_taken reached.2 (empty_world_of reached.0) w reached.3 (good (empty_world_of reached.0) (reached.0, reached.1, [], refl)) tt

-- ---- of one dataset

taken_in : (sets : List Dataset) (d : Dataset) → AreTaken sets → IsIn sets d → PlanIsTaken d d.plan
taken_in [] d are is = absurd is
taken_in (x ∷ sets) d are (inl same) = subst (λ y. PlanIsTaken y y.plan) (sym same) are.0
taken_in (x ∷ sets) d are (inr later) = taken_in sets d are.1 later

pieces_in : (sets : List Dataset) (d : Dataset) → ArePieces sets → IsIn sets d → HasPieces d
pieces_in [] d are is = absurd is
pieces_in (x ∷ sets) d are (inl same) = subst HasPieces (sym same) are.0
pieces_in (x ∷ sets) d are (inr later) = pieces_in sets d are.1 later

pub pieces_of_set : (w : World) (d : Dataset) → Reached w → IsIn w.sets d → HasPieces d
pieces_of_set w d reached is = pieces_in w.sets d (good w reached).sound.pieces is

pub way_of : (d : Dataset) (plan : Plan) → HasPieces d → d.plan ≡ Some plan → IsUnderWay d plan
way_of d plan has runs = subst (PlanIsUnderWay d) runs has.plan

pub dropped : (w : World) (d : Dataset) (plan : Plan) → Reached w → IsIn w.sets d → d.plan ≡ Some plan
    → missing d plan ≡ drop (length (joined plan.copied)) (missing_of d (current plan) [])
dropped w d plan reached is runs =
    let taken : IsTaken d plan = subst (PlanIsTaken d) runs (taken_in w.sets d (all_taken w reached) is)
    in goes_on d plan taken.0 (pieces_of_set w d reached is).rows taken.1
    ∙ sym (ap (drop (length (joined plan.copied))) taken.1 ∙ drop_front (joined plan.copied) taken.0)
