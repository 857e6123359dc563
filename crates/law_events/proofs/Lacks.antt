-- How many records the targets of a plan have, keep and lack, in the World and in its numbers.
use Rattle.std.proofs.Common.{◌≡◌, ◌⊎◌, ℕ, suc, ◌+◌, ◌-◌, List, [], ◌∷◌, ◌++◌, length, map, filter, refl, sym, ◌∙◌, ap, subst, inl, inr, arith}
use Rattle.std.specs.Prelude.{Option, Some, None, nat_lt, not, slice_index_or}
use Rattle.std.specs.List.{list_any}
use Rattle.std.proofs.lemmas.Bool.{cases_Bool, ltb-true, ltb-false}
use Rattle.std.proofs.lemmas.List.{append-nil, length-append}
use Rattle.std.proofs.lemmas.List.Filters.{length-filter_both}
use Rattle.ov_model.specs.Lists.{IsIn, joined}
use Rattle.ov_model.specs.Plans.{records_in, kept_pieces, missing_of, missing, current, no_target, target_steps, plan_steps_of}
use Rattle.ov_model.specs.Records.{Rec, recs, of_version, order_of, is_among, lacking}
use Rattle.ov_model.specs.World.{Target, Plan, Dataset}
use Rattle.ov_model.specs.World as world
use Rattle.ov_model.proofs.Origins.{all_known, in_filter}
use Rattle.law_partitions.specs.Pieces.{NoTwice, IsOfOne, AreOf, IsKept, AllKept, IsUnderWay, PlanIsUnderWay, HaveNoRowTwice}
use Rattle.law_partitions.proofs.CountRuns.{from_at, none_from}
use Rattle.law_partitions.proofs.PieceLists.{among_in, in_either, in_filtered, is_of}
use Rattle.law_partitions.proofs.PieceMore.{current_kept}
use Rattle.law_partitions.proofs.PieceTimes.{times-filter, all_once}
use Rattle.law_partitions.proofs.PlanExact.{in_among, of_one, known_one}
use Rattle.ov_catalog.specs.Events as numbers
use Rattle.ov_catalog.specs.Numbers.{TargetNumbers}
use Rattle.ov_catalog.specs.Planning as lacked
use Rattle.ov_catalog.specs.Shown.{shown_target, shown_plan}
use Rattle.ov_catalog.specs.Steps as counted
use Rattle.ov_catalog.proofs.Migrating.{plan_numbers, current_shown}
use Rattle.law_events.proofs.Counts.{no_more}
use Rattle.law_events.proofs.Seeing.{from_shown}

-- where none stands twice, and those that are there are among those that are wanted, the others lack
those_lacking : (wanted there : List Rec) → NoTwice wanted → NoTwice there → ((r : Rec) → IsIn there r → IsIn wanted r) → length (lacking wanted there) + length there ≡ length wanted
those_lacking wanted there once more within =
    let both : List Rec = filter (is_among there) wanted
    in omega (
      arith,
      length-filter_both (is_among there) (λ r. not (is_among there r)) (λ r. refl) wanted,
      no_more both there (λ r. omega (arith, times-filter (is_among there) wanted r, once r)) (λ r is. among_in there r (in_filtered (is_among there) wanted r is).1),
      no_more there both more (λ r is. in_filter (is_among there) wanted r (in_among there r is) (within r is)),
    )

-- ---- the records of versions together

pub together : (d : Dataset) (vids : List ℕ) (r : Rec) → IsOfOne (recs d.cvd.versions []) vids r → IsIn (records_in d.cvd vids) r
together d vids r is =
    in_filter (λ x. list_any (λ vid. is_among (of_version (recs d.cvd.versions []) vid) x) vids) (order_of d.cvd.versions) r
    (of_one (recs d.cvd.versions []) vids r is)
    (known_one (recs d.cvd.versions []) vids (order_of d.cvd.versions) r (all_known d.cvd.versions) is)

together_once : (d : Dataset) (vids : List ℕ) → HaveNoRowTwice d.cvd.versions → NoTwice (records_in d.cvd vids)
together_once d vids rows r =
    omega (arith, times-filter (λ x. list_any (λ vid. is_among (of_version (recs d.cvd.versions []) vid) x) vids) (order_of d.cvd.versions) r, all_once d.cvd.versions rows r)

-- ---- what a target lacks

module _ (d : Dataset) (rows : HaveNoRowTwice d.cvd.versions) where
  abbrev done : List (List Rec)
  done = recs d.cvd.versions []

  of_target : (t : Target) (copied : List (List Rec)) → IsKept d t → AreOf done t.versions (joined copied) → (r : Rec) → IsIn (joined (kept_pieces d t) ++ joined copied) r → IsIn (records_in d.cvd t.versions) r
  of_target t copied kept of r is =
      elim (in_either (joined (kept_pieces d t)) (joined copied) r is) [
        | inl old ↦ together d t.versions r (is_of done t.versions (joined (kept_pieces d t)) r kept.only old)
        | inr new ↦ together d t.versions r (is_of done t.versions (joined copied) r of new)
      ]

  pub target_lacks : (t : Target) (copied : List (List Rec)) → IsKept d t → NoTwice (joined (kept_pieces d t) ++ joined copied) → AreOf done t.versions (joined copied)
      → length (missing_of d t copied) + (t.kept_records + length (joined copied)) ≡ length (records_in d.cvd t.versions)
  target_lacks t copied kept once of =
      omega (
        arith,
        kept.count,
        length-append (joined (kept_pieces d t)) (joined copied),
        those_lacking (records_in d.cvd t.versions) (joined (kept_pieces d t) ++ joined copied) (together_once d t.versions rows) once (of_target t copied kept of),
      )

  pub new_lacks : (t : Target) → IsKept d t → length (missing_of d t []) + t.kept_records ≡ length (records_in d.cvd t.versions)
  new_lacks t kept =
      omega (arith, target_lacks t [] kept (subst NoTwice (sym (append-nil (joined (kept_pieces d t)))) kept.once) tt)

  module _ (plan : Plan) (way : IsUnderWay d plan) where
    pub current_lacks : length (missing d plan) + ((current plan).kept_records + length (joined plan.copied)) ≡ length (records_in d.cvd (current plan).versions)
    current_lacks = target_lacks (current plan) plan.copied (current_kept d plan way.kept) way.once way.only

    pub missing_shown : lacked.missing (plan_numbers d plan) ≡ length (missing d plan)
    missing_shown = ap (λ (t : TargetNumbers). t.size - (t.kept_records + length (joined plan.copied))) (current_shown d plan) ∙ omega (arith, current_lacks)

    pub wanted_shown : (numbers.current (plan_numbers d plan)).size - (numbers.current (plan_numbers d plan)).kept_records ≡ length (missing_of d (current plan) [])
    wanted_shown = ap (λ (t : TargetNumbers). t.size - t.kept_records) (current_shown d plan) ∙ omega (arith, new_lacks (current plan) (current_kept d plan way.kept))

  -- ---- the steps that are left

  later_steps_shown : (ts : List Target) → AllKept d ts → counted.later_steps (map (shown_target d) ts) ≡ target_steps d ts []
  later_steps_shown [] kept = refl
  later_steps_shown (t ∷ ts) kept =
      let lacks : length (records_in d.cvd t.versions) - t.kept_records ≡ length (missing_of d t []) = omega (arith, new_lacks t kept.0)
      in λ i. counted.steps_for (lacks i) + later_steps_shown ts kept.1 i

  -- the targets that wait are none, or the current one and those behind it
  waiting : (at : ℕ) (ts : List Target) → (world.targets_from at ts ≡ []) ⊎ (world.targets_from at ts ≡ slice_index_or ts at no_target ∷ world.targets_from (suc at) ts)
  waiting at ts =
      elim (cases_Bool (nat_lt at (length ts))) [
        | inl low ↦ inr (from_at at ts (ltb-true at (length ts) low))
        | inr high ↦ inl (none_from at ts (ltb-false at (length ts) high))
      ]

  current_steps_shown : (plan : Plan) → IsUnderWay d plan
      → counted.current_steps (length (joined plan.copied)) (map (shown_target d) (world.targets_from plan.at plan.targets)) ≡ target_steps d (world.targets_from plan.at plan.targets) plan.copied
  current_steps_shown plan way =
      elim (waiting plan.at plan.targets) [
        | inl none ↦ subst (λ ts. counted.current_steps (length (joined plan.copied)) (map (shown_target d) ts) ≡ target_steps d ts plan.copied) (sym none) refl
        | inr some ↦
            subst (λ ts. counted.current_steps (length (joined plan.copied)) (map (shown_target d) ts) ≡ target_steps d ts plan.copied) (sym some)
            (λ i. counted.steps_for (lacks i)
            + later_steps_shown (world.targets_from (suc plan.at) plan.targets) (subst (AllKept d) some way.kept).1 i)
      ]
    where
      lacks : length (records_in d.cvd (current plan).versions) - ((current plan).kept_records + length (joined plan.copied)) ≡ length (missing d plan)
      lacks = omega (arith, current_lacks plan way)

  pub steps_shown : (plan : Option Plan) → PlanIsUnderWay d plan → counted.plan_steps (shown_plan d plan) ≡ plan_steps_of d plan
  steps_shown None way = refl
  steps_shown (Some plan) way = ap (counted.current_steps (length (joined plan.copied))) (from_shown d plan.at plan.targets) ∙ current_steps_shown plan way
