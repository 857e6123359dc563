-- The first dataset with a plan in the catalog is the World's first in which a plan runs, and its numbers say what the plan is.
use Rattle.std.proofs.Common.{◌≡◌, ℕ, ◌+◌, ◌-◌, Bool, true, false, List, [], ◌∷◌, length, map, cond, refl, sym, ◌∙◌, ap, subst}
use Rattle.std.specs.Prelude.{if◌then◌else◌, is_some, Option, Some, None}
use Rattle.std.specs.List.{find}
use Rattle.std.proofs.lemmas.List.{length-map}
use Rattle.ov_host.specs.declared.area.Extent.{Extent}
use Rattle.ov_model.specs.Lists.{joined}
use Rattle.ov_model.specs.Moves as moves
use Rattle.ov_model.specs.Plans.{missing}
use Rattle.ov_model.specs.Records.{order_of}
use Rattle.ov_model.specs.Steps.{step_or, first_step, next_step}
use Rattle.ov_model.specs.World.{Plan, Dataset, World, first_set}
use Rattle.ov_catalog.specs.Events as numbers
use Rattle.ov_catalog.specs.Numbers.{PlanNumbers, TargetNumbers, Numbers as Catalog, each_plan, each_set}
use Rattle.ov_catalog.specs.Planning as lacked
use Rattle.ov_catalog.specs.Reached.{Reached}
use Rattle.ov_catalog.specs.Shown.{Records, segment_of, shown_plan, shown_set}
use Rattle.ov_catalog.specs.Stands.{asked, seen}
use Rattle.ov_catalog.proofs.Members.{heads, tails}
use Rattle.ov_catalog.proofs.Migrating.{plan_numbers, current_shown}
use Rattle.law_image.specs.Pages.{readings_of}
use Rattle.law_events.proofs.Left.{plan_missing}
use Rattle.law_reads.proofs.Founds.{Shows, first_in, some_is}
use Rattle.ov_read.specs.Agreement.{Numbers}
use Rattle.ov_read.specs.OfWorld.{IsSetOf}
use Rattle.law_steps.specs.Turns.{IsPlanSeen, IsSeenTurn, running, runs}
use Rattle.law_steps.proofs.Firsts.{turn_of}

-- ---- a plan runs in both or in neither

each_runs : {S T : Type 0} (g : S → T) (plan : Option (PlanNumbers S)) → is_some (each_plan g plan) ≡ is_some plan
each_runs g None = refl
each_runs g (Some plan) = refl

shown_runs : (d : Dataset) (plan : Option Plan) → is_some (shown_plan d plan) ≡ is_some plan
shown_runs d None = refl
shown_runs d (Some plan) = refl

same_runs : (area : List ℕ) (s : Numbers) (d : Dataset) → Shows area s d → is_some s.plan ≡ runs d
same_runs area s d shows =
    sym (each_runs (readings_of area).segment s.plan) ∙ ap (λ x. is_some x.plan) shows ∙ each_runs Some (shown_plan d d.plan) ∙ shown_runs d d.plan

-- ---- the first one

abbrev AreShown : List ℕ → List Numbers → List Dataset → Type 0
AreShown area ss ds = map (each_set (readings_of area).list (readings_of area).segment) ss ≡ map (each_set Some Some) (map shown_set ds)

module _ (area : List ℕ) where
  abbrev IsFirst : List Dataset → Numbers → Type 0
  IsFirst ds s = (d : Dataset) × ((first_set runs ds ≡ Some d) × Shows area s d)

  finds : (ss : List Numbers) (ds : List Dataset) (s : Numbers) → AreShown area ss ds → find (λ x. is_some x.plan) ss ≡ Some s → IsFirst ds s
  finds [] ds s shown is = cc
  finds (x ∷ ss) [] s shown is = cc
  finds (x ∷ ss) (d ∷ ds) s shown is =
      let here : Shows area x d = heads _ _ _ _ shown
      in by (is_some x.plan) (runs d) here (same_runs area x d here) is (λ later. finds ss ds s (tails _ _ _ _ shown) later)
    where
      by : (a b : Bool) → Shows area x d → a ≡ b → cond a (Some x) (find (λ y. is_some y.plan) ss) ≡ Some s
          → (find (λ y. is_some y.plan) ss ≡ Some s → IsFirst ds s) → (y : Dataset) × (((if b then Some d else first_set runs ds) ≡ Some y) × Shows area s y)
      by true true here e is rest = (d, (refl, subst (λ y. Shows area y d) (some_is x s is) here))
      by true false here e is rest = absurd cc
      by false true here e is rest = absurd cc
      by false false here e is rest = rest is

  finds_none : (ss : List Numbers) (ds : List Dataset) → AreShown area ss ds → find (λ x. is_some x.plan) ss ≡ None → first_step ds ≡ None
  finds_none [] [] shown is = refl
  finds_none [] (d ∷ ds) shown is = cc
  finds_none (x ∷ ss) [] shown is = refl
  finds_none (x ∷ ss) (d ∷ ds) shown is =
      by (is_some x.plan) d.plan (same_runs area x d (heads _ _ _ _ shown)) is (λ later. finds_none ss ds (tails _ _ _ _ shown) later)
    where
      by : (a : Bool) (o : Option Plan) → a ≡ is_some o → cond a (Some x) (find (λ y. is_some y.plan) ss) ≡ None
          → (find (λ y. is_some y.plan) ss ≡ None → first_step ds ≡ None) → step_or d o (first_step ds) ≡ None
      by true o e is rest = cc
      by false None e is rest = rest is
      by false (Some plan) e is rest = absurd cc

pub seen_turn : (w : World) (n : Catalog Extent Extent) (area : List ℕ) (s : Numbers) → Reached w → seen (readings_of area) n ≡ asked w
    → running n ≡ Some s → IsSeenTurn w area s
seen_turn w n area s reached shows is =
    let first = finds area n.sets w.sets s (ap (λ x. x.sets) shows) is
    in let turn = turn_of w first.0 reached first.1.0
    in let number : s.number ≡ first.0.cvd.number = ap (λ x. x.number) first.1.1
    in record {
      set = first.0;
      plan = turn.0;
      turn = turn.1;
      of_world = record {
        reached = reached;
        among = ap (λ n. first_set (moves.numbered n) w.sets) number ∙ turn.1.found;
        shows = first.1.1;
      };
    }

pub no_turn : (w : World) (n : Catalog Extent Extent) (area : List ℕ) → seen (readings_of area) n ≡ asked w → running n ≡ None → next_step w ≡ None
no_turn w n area shows is = finds_none area n.sets w.sets (ap (λ x. x.sets) shows) is

-- ---- what the numbers say of a plan

abbrev lacked_of : TargetNumbers → ℕ → ℕ
lacked_of t copied = t.size - (t.kept_records + copied)

plan_if : (area : List ℕ) (s : Numbers) (d : Dataset) (plan : Plan) (found : Option (PlanNumbers Extent)) → s.plan ≡ found
    → lacked.missing (plan_numbers d plan) ≡ length (missing d plan) → each_plan (readings_of area).segment found ≡ each_plan Some (Some (plan_numbers d plan)) → IsPlanSeen s d plan
plan_if area s d plan None is lacks shows = cc
plan_if area s d plan (Some found) is lacks shows =
    let same : each found ≡ wanted = some_is (each found) wanted shows
    in let here : numbers.current found ≡ numbers.current (plan_numbers d plan) = ap (λ x. numbers.current x) same
    in record {
      seen = found;
      is = is;
      p = ap (λ x. x.p) same;
      q = ap (λ x. x.q) same;
      targets = ap (λ x. x.targets) same;
      at = ap (λ x. x.at) same;
      current = here ∙ current_shown d plan;
      copied = ap (λ x. x.copied) same;
      segments =
          sym (length-map found.segments (readings_of area).segment) ∙ ap (λ x. length x.segments) same
          ∙ length-map (map (segment_of (order_of d.cvd.versions)) plan.copied) Some ∙ length-map plan.copied (segment_of (order_of d.cvd.versions));
      missing = (λ i. lacked_of (here i) (ap (λ x. x.copied) same i)) ∙ lacks;
    }
  where
    each : PlanNumbers Extent → PlanNumbers (Option Records)
    each x = record { p = x.p; q = x.q; targets = x.targets; at = x.at; copied = x.copied; segments = map (readings_of area).segment x.segments }

    wanted : PlanNumbers (Option Records)
    wanted = record {
      p = plan.p;
      q = plan.q;
      targets = (plan_numbers d plan).targets;
      at = plan.at;
      copied = length (joined plan.copied);
      segments = map Some (map (segment_of (order_of d.cvd.versions)) plan.copied);
    }

pub plan_seen : (w : World) (area : List ℕ) (s : Numbers) (d : Dataset) (plan : Plan) → IsSetOf w d area s → d.plan ≡ Some plan → IsPlanSeen s d plan
plan_seen w area s d plan of_world runs =
    plan_if area s d plan s.plan refl (plan_missing w d plan (plan_numbers d plan) of_world.reached (first_in (moves.numbered s.number) w.sets d of_world.among) runs (ap (shown_plan d) runs))
    (ap (λ x. x.plan) of_world.shows ∙ ap (λ o. each_plan Some (shown_plan d o)) runs)
