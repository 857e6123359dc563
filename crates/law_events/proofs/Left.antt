-- What is left of the plans of a World that moves reach, by its numbers.
use Rattle.std.proofs.Common.{◌≡◌, ◌+◌, ◌-◌, List, [], ◌∷◌, length, map, refl, sym, ◌∙◌, ap, subst, inl, inr}
use Rattle.std.specs.Prelude.{Some}
use Rattle.std.proofs.lemmas.List.Sums.{sum_by-cons}
use Rattle.ov_model.specs.Lists.{IsIn}
use Rattle.ov_model.specs.Plans.{missing, missing_of, current, plan_steps}
use Rattle.ov_model.specs.Steps.{steps_of_all, steps_left}
use Rattle.ov_model.specs.World.{Plan, Dataset, World}
use Rattle.law_partitions.specs.Pieces.{IsUnderWay, PlanIsUnderWay, HasPieces, ArePieces}
use Rattle.ov_catalog.specs.Events as numbers
use Rattle.ov_catalog.specs.Numbers.{PlanNumbers, SetNumbers}
use Rattle.ov_catalog.specs.Planning as lacked
use Rattle.ov_catalog.specs.Reached.{Reached}
use Rattle.ov_catalog.specs.Shown.{Rids, Records, shown, shown_plan, shown_set}
use Rattle.ov_catalog.specs.Steps as counted
use Rattle.ov_catalog.proofs.Good.{good}
use Rattle.ov_catalog.proofs.Migrating.{plan_numbers}
use Rattle.ov_catalog.proofs.Moving.{some_same}
use Rattle.law_events.proofs.Lacks.{missing_shown, wanted_shown, steps_shown}

pieces_in : (sets : List Dataset) (d : Dataset) → ArePieces sets → IsIn sets d → HasPieces d
pieces_in [] d are is = absurd is
pieces_in (x ∷ sets) d are (inl same) = subst HasPieces (sym same) are.0
pieces_in (x ∷ sets) d are (inr later) = pieces_in sets d are.1 later

pieces_of_set : (w : World) (d : Dataset) → Reached w → IsIn w.sets d → HasPieces d
pieces_of_set w d reached is = pieces_in w.sets d (good w reached).sound.pieces is

under_way : (d : Dataset) (plan : Plan) → HasPieces d → d.plan ≡ Some plan → IsUnderWay d plan
under_way d plan has runs = subst (PlanIsUnderWay d) runs has.plan

-- what is shown of the plan that runs
same_plan : (d : Dataset) (plan : Plan) (p : PlanNumbers Records) → d.plan ≡ Some plan → shown_plan d d.plan ≡ Some p → plan_numbers d plan ≡ p
same_plan d plan p runs shows = some_same (plan_numbers d plan) p (ap (shown_plan d) (sym runs) ∙ shows)

pub plan_missing : (w : World) (d : Dataset) (plan : Plan) (p : PlanNumbers Records) → Reached w → IsIn w.sets d → d.plan ≡ Some plan → shown_plan d d.plan ≡ Some p
    → lacked.missing p ≡ length (missing d plan)
plan_missing w d plan p reached is runs shows =
    let has : HasPieces d = pieces_of_set w d reached is
    in ap lacked.missing (sym (same_plan d plan p runs shows)) ∙ missing_shown d has.rows plan (under_way d plan has runs)

pub plan_wanted : (w : World) (d : Dataset) (plan : Plan) (p : PlanNumbers Records) → Reached w → IsIn w.sets d → d.plan ≡ Some plan → shown_plan d d.plan ≡ Some p
    → (numbers.current p).size - (numbers.current p).kept_records ≡ length (missing_of d (current plan) [])
plan_wanted w d plan p reached is runs shows =
    let has : HasPieces d = pieces_of_set w d reached is
    in ap (λ (n : PlanNumbers Records). (numbers.current n).size - (numbers.current n).kept_records) (sym (same_plan d plan p runs shows))
    ∙ wanted_shown d has.rows plan (under_way d plan has runs)

pub plan_left : (w : World) (d : Dataset) → Reached w → IsIn w.sets d → counted.plan_steps (shown_plan d d.plan) ≡ plan_steps d
plan_left w d reached is =
    let has : HasPieces d = pieces_of_set w d reached is
    in steps_shown d has.rows d.plan has.plan

sets_left : (sets : List Dataset) → ArePieces sets → counted.steps_of (map shown_set sets) ≡ steps_of_all sets
sets_left [] are = refl
sets_left (d ∷ sets) are =
    sum_by-cons (λ (s : SetNumbers Rids Records). counted.plan_steps s.plan) (shown_set d) (map shown_set sets)
    ∙ (λ i. steps_shown d are.0.rows d.plan are.0.plan i + sets_left sets are.1 i)

pub all_left : (w : World) → Reached w → counted.steps_left (shown w) ≡ steps_left w
all_left w reached = sets_left w.sets (good w reached).sound.pieces
