-- A Copy leaves a dataset as a Whole may say it.
use Rattle.std.proofs.Common.{◌≡◌, ◌≤◌, ℕ, ◌+◌, true, ◌&&◌, ◌++◌, length, min, refl, subst, arith}
use Rattle.std.specs.Prelude.{nat_le, nat_lt, ◌==◌, Option, Some, None}
use Rattle.std.proofs.lemmas.Bool.{and_parts, and_from, eqb-true, leb-true, le-leb}
use Rattle.ov_host.specs.declared.area.Extent.{Extent}
use Rattle.ov_layout.specs.Changes.{extents_of}
use Rattle.ov_catalog.specs.declared.field.Field.TheVariants as off
use Rattle.ov_catalog.specs.Events.{with_plan, copied_for, copied_more, current}
use Rattle.ov_catalog.specs.Numbers.{PlanNumbers, SetNumbers}
use Rattle.ov_catalog.specs.Planning.{of_running, copy_off, missing}
use Rattle.ov_catalog.specs.Testing.{off_unless}
use Rattle.ov_catalog.specs.Wholes.{are_parts, are_placed, is_plan, is_threshold_for}
use Rattle.ov_catalog.proofs.CommitLemmas.{off-none, off-true}
use Rattle.law_snapshots.specs.Whole.{IsWhole, RunsAt, p_of, q_of}
use Rattle.law_snapshots.proofs.PartTests.{is_filled, segments_both, segment_one}

module _ (count : ℕ) (segment : Extent) where
  abbrev copied : PlanNumbers Extent → PlanNumbers Extent
  copied plan =
      record { p = plan.p; q = plan.q; targets = plan.targets; at = plan.at; copied = plan.copied + count; segments = plan.segments ++ extents_of segment }

  record Copies (plan : PlanNumbers Extent) : Type 0 where
    some : 1 ≤ count
    few : count ≤ missing plan
    filled : is_filled segment ≡ true

  copies_of : (plan : PlanNumbers Extent) → copy_off count segment plan ≡ None → Copies plan
  copies_of plan off_none =
      let tests = off-none (nat_le 1 count && count == min 256 (missing plan)) off.Count (off_unless (is_filled segment) off.Place) off_none
      in let counts = and_parts (nat_le 1 count) (count == min 256 (missing plan)) tests.0
      in let is : count ≡ min 256 (missing plan) = eqb-true count (min 256 (missing plan)) counts.1
      in record { some = leb-true 1 count counts.0; few = omega (arith, is); filled = off-true (is_filled segment) off.Place tests.1 }

  -- the plan is where it was, and what it takes is no more than the target misses
  copied_plan : (d : SetNumbers Extent Extent) (plan : PlanNumbers Extent) → Copies plan → is_plan d (Some plan) ≡ true → is_plan d (Some (copied plan)) ≡ true
  copied_plan d plan takes is =
      let halves = and_parts _ _ is
      in let counts = and_parts (nat_lt plan.at (length plan.targets)) (nat_le (plan.copied + (current plan).kept_records) (current plan).size) halves.0
      in let most : plan.copied + count + (current plan).kept_records ≤ (current plan).size = omega (arith, takes.some, takes.few)
      in and_from _ _ (and_from _ _ counts.0 (le-leb (plan.copied + count + (current plan).kept_records) (current plan).size most)) halves.1

  copied_placed : (d : SetNumbers Extent Extent) (plan : PlanNumbers Extent) → Copies plan → are_placed (with_plan d.threshold (Some plan) d) ≡ true
      → are_placed (with_plan d.threshold (Some (copied plan)) d) ≡ true
  copied_placed d plan takes are =
      let lists = and_parts _ _ are
      in let segments = and_parts _ _ lists.1
      in and_from _ _ lists.0
      (and_from _ _ segments.0 (segments_both plan.copied count plan.segments (extents_of segment) segments.1 (segment_one count segment takes.some takes.filled)))

  copied_by : (d : SetNumbers Extent Extent) (plan : Option (PlanNumbers Extent)) → d.plan ≡ plan → IsWhole d → of_running (copy_off count segment) plan ≡ None
      → IsWhole (with_plan d.threshold (copied_for count (extents_of segment) plan) d)
  copied_by d None e whole off_none = absurd cc
  copied_by d (Some plan) e whole off_none =
      let takes : Copies plan = copies_of plan off_none
      in record {
        named = whole.named;
        schema = whole.schema;
        versions = whole.versions;
        messages = whole.messages;
        records = whole.records;
        parts = subst (λ (o : Option (PlanNumbers Extent)). are_parts (with_plan d.threshold o d) ≡ true) e whole.parts;
        threshold = subst (λ (o : Option (PlanNumbers Extent)). is_threshold_for (p_of d.threshold) (q_of d.threshold) o ≡ true) e whole.threshold;
        said = whole.said;
        runs = subst (λ (o : Option (PlanNumbers Extent)). RunsAt d.threshold o) e whole.runs;
        plan = copied_plan d plan takes (subst (λ (o : Option (PlanNumbers Extent)). is_plan d o ≡ true) e whole.plan);
        placed = copied_placed d plan takes (subst (λ (o : Option (PlanNumbers Extent)). are_placed (with_plan d.threshold o d) ≡ true) e whole.placed);
      }

pub copy_whole : (count : ℕ) (segment : Extent) (d : SetNumbers Extent Extent) → IsWhole d → of_running (copy_off count segment) d.plan ≡ None
    → IsWhole (copied_more count (extents_of segment) d)
copy_whole count segment d whole off_none = copied_by count segment d d.plan refl whole off_none
