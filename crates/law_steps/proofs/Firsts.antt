-- The next step is of the first dataset in which a plan runs, and fits.
use Rattle.std.proofs.Common.{◌≡◌, ◌<◌, ℕ, Bool, true, false, ◌==◌, List, [], ◌∷◌, length, refl, sym, ◌∙◌, ap, subst, inl, inr, arith}
use Rattle.std.specs.Prelude.{if◌then◌else◌, is_some, Option, Some, None}
use Rattle.std.proofs.lemmas.Bool.{eqb-true, eq-eqb}
use Rattle.ov_model.specs.Lists.{IsIn}
use Rattle.ov_model.specs.Moves.{Move, Copy, Flip, numbered}
use Rattle.ov_model.specs.Plans.{missing}
use Rattle.ov_model.specs.Records.{Rec}
use Rattle.ov_model.specs.Steps.{step_of, step_or, first_step, next_step}
use Rattle.ov_model.specs.World.{Plan, Dataset, World, first_set}
use Rattle.law_partitions.proofs.CountSteps.{some_missing}
use Rattle.ov_catalog.specs.Reached.{Fits, IfThere, IfRunning, MissesSome, MissesNone, Reached}
use Rattle.ov_catalog.specs.Shown.{copy_event, copy_for, event_of, in_set}
use Rattle.ov_catalog.proofs.Good.{NoneNumbered, Distinct, good}
use Rattle.law_reads.proofs.Founds.{some_is, first_in}
use Rattle.law_steps.specs.Turns.{runs, IsTurn, IsNext}

clash : true ≡ false → ⊥
clash e = cc

-- ---- the first dataset in which a plan runs

first_if : (d : Dataset) (sets : List Dataset) (m : Move) (found : Option Plan) → step_or d found (first_step sets) ≡ Some m
    → (first_step sets ≡ Some m → (x : Dataset) × (first_set runs sets ≡ Some x))
    → (x : Dataset) × ((if is_some found then Some d else first_set runs sets) ≡ Some x)
first_if d sets m None step later = later step
first_if d sets m (Some plan) step later = (d, refl)

first_by : (sets : List Dataset) (m : Move) → first_step sets ≡ Some m → (x : Dataset) × (first_set runs sets ≡ Some x)
first_by [] m step = cc
first_by (d ∷ sets) m step = first_if d sets m d.plan step (λ later. first_by sets m later)

-- the step that is next is of this dataset's plan
abbrev Steps : List Dataset → Dataset → Type 0
Steps sets x = (plan : Plan) × ((x.plan ≡ Some plan) × (first_step sets ≡ Some (step_of x plan)))

step_if : (d : Dataset) (sets : List Dataset) (x : Dataset) (found : Option Plan) → d.plan ≡ found → (if is_some found then Some d else first_set runs sets) ≡ Some x
    → (first_set runs sets ≡ Some x → Steps sets x) → Steps (d ∷ sets) x
step_if d sets x None is first later =
    let rest = later first
    in (rest.0, (rest.1.0, ap (λ o. step_or d o (first_step sets)) is ∙ rest.1.1))
step_if d sets x (Some plan) is first later =
    let same : d ≡ x = some_is d x first
    in (plan, (ap (λ y. y.plan) (sym same) ∙ is, ap (λ o. step_or d o (first_step sets)) is ∙ ap (λ y. Some (step_of y plan)) same))

step_by : (sets : List Dataset) (x : Dataset) → first_set runs sets ≡ Some x → Steps sets x
step_by [] x first = cc
step_by (d ∷ sets) x first = step_if d sets x d.plan refl first (λ later. step_by sets x later)

-- ---- a dataset is found by its number

other_number : (number : ℕ) (sets : List Dataset) (d : Dataset) → NoneNumbered number sets → IsIn sets d → d.cvd.number ≡ number → ⊥
other_number number [] d none is same = is
other_number number (x ∷ sets) d none (inl here) same = none.0 (ap (λ y. y.cvd.number) (sym here) ∙ same)
other_number number (x ∷ sets) d none (inr later) same = other_number number sets d none.1 later same

pub found_by_number : (sets : List Dataset) (d : Dataset) → Distinct sets → IsIn sets d → first_set (numbered d.cvd.number) sets ≡ Some d
found_by_number [] d distinct is = absurd is
found_by_number (x ∷ sets) d distinct is =
    by (x.cvd.number == d.cvd.number) is (λ same. eq-eqb x.cvd.number d.cvd.number same) (λ e. eqb-true x.cvd.number d.cvd.number e)
    (λ later. found_by_number sets d distinct.1 later)
  where
    by : (b : Bool) → IsIn (x ∷ sets) d → (x.cvd.number ≡ d.cvd.number → b ≡ true) → (b ≡ true → x.cvd.number ≡ d.cvd.number)
        → (IsIn sets d → first_set (numbered d.cvd.number) sets ≡ Some d) → (if b then Some x else first_set (numbered d.cvd.number) sets) ≡ Some d
    by true (inl here) test back rest = ap Some (sym here)
    by true (inr later) test back rest = absurd (other_number x.cvd.number sets d distinct.0 later (sym (back refl)))
    by false (inl here) test back rest = absurd (clash (sym (test (ap (λ y. y.cvd.number) (sym here)))))
    by false (inr later) test back rest = rest later

-- ---- whose turn it is

pub turn_of : (w : World) (d : Dataset) → Reached w → first_set runs w.sets ≡ Some d → (plan : Plan) × IsTurn w d plan
turn_of w d reached first =
    let step : Steps w.sets d = step_by w.sets d first
    in (
      step.0,
      record {
        first = first;
        found = found_by_number w.sets d (good w reached).distinct (first_in runs w.sets d first);
        runs = step.1.0;
        next = step.1.1;
      },
    )

pub next_of : (w : World) (m : Move) → Reached w → next_step w ≡ Some m → IsNext w m
next_of w m reached next =
    let first = first_by w.sets m next
    in let turn = turn_of w first.0 reached first.1
    in record { set = first.0; plan = turn.0; turn = turn.1; is = some_is m (step_of first.0 turn.0) (sym next ∙ turn.1.next) }

-- ---- it fits

no_records : (rs : List Rec) → length rs ≡ 0 → rs ≡ []
no_records [] e = refl
no_records (r ∷ rs) e = absurd (omega (arith, e))

fits_by : (t : Bool) (w : World) (d : Dataset) (plan : Plan) → IsTurn w d plan → (length (missing d plan) == 0) ≡ t
    → Fits (if t then Flip d.cvd.number else Copy d.cvd.number) w
fits_by true w d plan turn none =
    subst (IfThere MissesNone) (sym turn.found)
    (subst (IfRunning (λ p. missing d p ≡ [])) (sym turn.runs) (no_records (missing d plan) (eqb-true (length (missing d plan)) 0 none)))
fits_by false w d plan turn some =
    subst (IfThere MissesSome) (sym turn.found)
    (subst (IfRunning (λ p. 0 < length (missing d p))) (sym turn.runs) (some_missing (length (missing d plan)) some))

pub next_fits : (w : World) (m : Move) → Reached w → next_step w ≡ Some m → Fits m w
next_fits w m reached next =
    let is : IsNext w m = next_of w m reached next
    in subst (λ k. Fits k w) (sym is.is) (fits_by (length (missing is.set is.plan) == 0) w is.set is.plan is.turn refl)

-- ---- the event of a copy

copied_number : (t : Bool) (cvd number : ℕ) → Copy cvd ≡ (if t then Flip number else Copy number) → cvd ≡ number
copied_number true cvd number e = cc
copied_number false cvd number e = cc

pub copy_of_next : (w : World) (cvd : ℕ) → Reached w → next_step w ≡ Some (Copy cvd)
    → IfThere (λ d. IfRunning (λ plan. event_of (Copy cvd) w ≡ Some (copy_event cvd d plan)) d.plan) (first_set (numbered cvd) w.sets)
copy_of_next w cvd reached next =
    let is : IsNext w (Copy cvd) = next_of w (Copy cvd) reached next
    in let same : cvd ≡ is.set.cvd.number = copied_number (length (missing is.set is.plan) == 0) cvd is.set.cvd.number is.is
    in let found : first_set (numbered cvd) w.sets ≡ Some is.set = ap (λ n. first_set (numbered n) w.sets) same ∙ is.turn.found
    in let event : event_of (Copy cvd) w ≡ Some (copy_event cvd is.set is.plan) =
    ap (in_set (λ d. copy_for cvd d d.plan)) found ∙ ap (copy_for cvd is.set) is.turn.runs
    in subst (IfThere (λ d. IfRunning (λ plan. event_of (Copy cvd) w ≡ Some (copy_event cvd d plan)) d.plan)) (sym found)
    (subst (IfRunning (λ plan. event_of (Copy cvd) w ≡ Some (copy_event cvd is.set plan))) (sym is.turn.runs) event)
