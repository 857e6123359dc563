-- A Plan leaves a dataset as a Whole may say it.
use Rattle.std.proofs.Common.{◌≡◌, ◌≤◌, ◌<◌, ℕ, zero, suc, ◌+◌, Bool, true, false, not, ◌&&◌, ◌||◌, ◌==◌, List, [], ◌∷◌, length, map, refl, sym, ◌∙◌, ap, subst, inl, inr, arith}
use Rattle.std.specs.Prelude.{nat_le, is_none, Some, None}
use Rattle.std.specs.List.{All, flat_map, list_all, list_any}
use Rattle.std.proofs.lemmas.Bool.{cases_Bool, and_parts, and_from, or_left, or_right, or_from, ne_eqb, eqb-true, leb-true, le-leb, lt-ltb}
use Rattle.std.proofs.lemmas.List.{length-map}
use borrow.Author.Tests.{not-true}
use Rattle.ov_event.specs.declared.event.PlanTarget.{PlanTarget}
use Rattle.ov_graph.specs.Versions as graph
use Rattle.ov_host.specs.declared.area.Extent.{Extent}
use Rattle.ov_catalog.specs.declared.field.Field.TheVariants as off
use Rattle.ov_catalog.specs.Events.{current, graph_of, is_one, parts_at, planned, target_of, targets_of}
use Rattle.ov_catalog.specs.Numbers.{PartNumbers, PlanNumbers, SetNumbers, TargetNumbers, VersionNumbers}
use Rattle.ov_catalog.specs.Planning.{are_targets as may_be_targets, ascend_from, is_size, is_source, is_threshold, meets, plan_off}
use Rattle.ov_catalog.specs.Raw.{threshold_in}
use Rattle.ov_catalog.specs.Splitting.{IsListed}
use Rattle.ov_catalog.specs.Testing.{off_unless, rows_at, targets_from}
use Rattle.ov_catalog.specs.Wholes.{are_parts, are_placed, are_sources, are_targets, are_there, are_versions, is_part, is_plan, parents_follow, serves_only}
use Rattle.ov_catalog.proofs.CommitLemmas.{off-none, off-true}
use Rattle.ov_catalog.proofs.SplitLemmas.{parts-few}
use Rattle.ov_catalog.proofs.TargetLemmas.{ascend-in, versions-of}
use Rattle.law_snapshots.specs.Whole.{IsWhole}
use Rattle.law_snapshots.proofs.PartTests.{all_at, all_by, all_more, one_both, one_if, parts_are, parts_test, some_one}
use Rattle.law_snapshots.proofs.SourcesLeft.{first_within, from_first, from_next}
use Rattle.law_snapshots.proofs.SplitParts.{AreSplit, is_some, lists_with, split_parts, with_cons}

-- ---- the parts of the split

-- no part behind one has a version of it
parts_apart : (part : List ℕ) (parts : List (List ℕ)) → ((vid : ℕ) → is_one part vid ≡ true → lists_with vid parts ≡ 0) → list_any (λ other. meets other part) parts ≡ false
parts_apart part [] none = refl
parts_apart part (other ∷ parts) none =
    or_from (meets other part) (list_any (λ (o : List ℕ). meets o part) parts)
    (elim (cases_Bool (meets other part)) [
      | inl e ↦
          let some = some_one (is_one part) other e
          in let one : one_if (is_one other some.0) ≡ 1 = ap one_if some.1.0
          in absurd (omega (arith, one, none some.0 some.1.1, with_cons some.0 other parts))
      | inr e ↦ e
    ])
    (parts_apart part parts (λ vid there. omega (arith, none vid there, with_cons vid other parts)))

-- a version that is in one of them is in one of the targets
in_targets : (vid : ℕ) (parts : List (List ℕ)) (said : List PlanTarget) → length said ≡ length parts → 1 ≤ lists_with vid parts → is_one (flat_map (λ t. t.versions) (targets_of parts said)) vid ≡ true
in_targets vid [] said long some = absurd (omega (arith, some))
in_targets vid (part ∷ parts) [] long some = absurd (omega (arith, long))
in_targets vid (part ∷ parts) (s ∷ said) long some =
    let more : List ℕ = flat_map (λ (t : TargetNumbers). t.versions) (targets_of parts said)
    in one_both part more vid
    ∙ elim (cases_Bool (is_one part vid)) [
      | inl e ↦ or_left (is_one part vid) (is_one more vid) e
      | inr e ↦
          let none : one_if (is_one part vid) ≡ 0 = ap one_if e
          in or_right (is_one part vid) (is_one more vid) (in_targets vid parts said (omega (arith, long)) (omega (arith, some, none, with_cons vid part parts)))
    ]

any_map : (vids : List ℕ) (ts : List TargetNumbers) → list_any (λ u. meets u.versions vids) ts ≡ list_any (λ other. meets other vids) (map (λ u. u.versions) ts)
any_map vids [] = refl
any_map vids (t ∷ ts) = ap (λ (b : Bool). meets t.versions vids || b) (any_map vids ts)

module _ (d : SetNumbers Extent Extent) where
  abbrev count : ℕ
  count = length d.versions

  there_at : (part : List ℕ) (vid : ℕ) → are_there count part ≡ true → is_one part vid ≡ true → (1 ≤ vid) × (vid ≤ count)
  there_at part vid there one =
      let both = and_parts _ _ there
      in (from_one 1 part both.0 one, leb-true vid count (all_at (λ n. nat_le n count) part vid both.1 one))
    where
      from_one : (least : ℕ) (ns : List ℕ) → ascend_from least ns ≡ true → is_one ns vid ≡ true → least ≤ vid
      from_one least [] up one = absurd cc
      from_one least (n ∷ ns) up one =
          let both = and_parts (nat_le least n) (ascend_from (n + 1) ns) up
          in let low = leb-true least n both.0
          in elim (cases_Bool (n == vid)) [
            | inl e ↦ let same = eqb-true n vid e in omega (arith, low, same)
            | inr e ↦ let rest = from_one (n + 1) ns both.1 (rw e at one) in omega (arith, low, rest)
          ]

  -- what a Plan says of a part makes a target of it
  targets_are : (parts : List (List ℕ)) (said : List PlanTarget) → length said ≡ length parts → list_all is_some parts ≡ true → list_all (are_there count) parts ≡ true
      → ((vid : ℕ) → 1 ≤ vid → vid ≤ count → lists_with vid parts ≤ 1) → may_be_targets d (targets_of parts said) ≡ true → are_targets count d.records (targets_of parts said) ≡ true
  targets_are [] said long some there once may = refl
  targets_are (part ∷ parts) [] long some there once may = absurd (omega (arith, long))
  targets_are (part ∷ parts) (s ∷ said) long some there once may =
      let later : List TargetNumbers = targets_of parts said
      in let t : TargetNumbers = target_of part s
      in let full = and_parts (is_some part) (list_all is_some parts) some
      in let here = and_parts (are_there count part) (list_all (are_there count) parts) there
      in let tests = and_parts (is_size d t && is_source d.parts t (map (λ (u : TargetNumbers). u.versions) later)) (may_be_targets d later) may
      in let size = and_parts (list_all (λ vid. nat_le (rows_at d.versions vid) t.size) part) (nat_le t.size d.records)
      (and_parts (is_size d t) (is_source d.parts t (map (λ (u : TargetNumbers). u.versions) later)) tests.0).0
      in let versions : map (λ (u : TargetNumbers). u.versions) later ≡ parts = versions-of parts said (omega (arith, long))
      in let apart : list_any (λ (u : TargetNumbers). meets u.versions part) later ≡ false =
      any_map part later ∙ ap (λ (ps : List (List ℕ)). list_any (λ other. meets other part) ps) versions
      ∙ parts_apart part parts (λ vid one.
      let range = there_at part vid here.0 one
      in let is : one_if (is_one part vid) ≡ 1 = ap one_if one
      in omega (arith, once vid range.0 range.1, is, with_cons vid part parts))
      in and_from _ _ (and_from _ _ (and_from _ _ full.0 here.0) (and_from _ _ (ap not apart) size.1))
      (targets_are parts said (omega (arith, long)) full.1 here.1 (λ vid low high. omega (arith, once vid low high, with_cons vid part parts)) tests.1)

  -- where all versions of the partitions are in the targets, a Plan's sources are a Whole's
  sources_are : (vids : List ℕ) (ts : List TargetNumbers) → list_all (λ part. list_all (is_one vids) part.versions) d.parts ≡ true → may_be_targets d ts ≡ true → are_sources d.parts vids ts ≡ true
  sources_are vids [] all may = refl
  sources_are vids (t ∷ ts) all may =
      let others : List (List ℕ) = map (λ (u : TargetNumbers). u.versions) ts
      in let tests = and_parts (is_size d t && is_source d.parts t others) (may_be_targets d ts) may
      in let source = (and_parts (is_size d t) (is_source d.parts t others) tests.0).1
      in let only = all_more (λ (part : PartNumbers Extent). list_all (is_one vids) part.versions) (serves_only t.source vids) d.parts
      (λ part is. or_right (not (part.id == t.source)) (list_all (is_one vids) part.versions) is) all
      in and_from _ _ (and_from _ _ source only) (sources_are vids ts all tests.1)

  -- the versions of a partition are there
  part_within : (vids : List ℕ) → ((vid : ℕ) → 1 ≤ vid → vid ≤ count → is_one vids vid ≡ true) → (part : PartNumbers Extent) → is_part count d.records part ≡ true → list_all (is_one vids) part.versions ≡ true
  part_within vids all part is =
      let halves = and_parts (not (length part.versions == 0) && list_all (is_one part.holds) part.versions) _ is
      in let held = and_parts (not (length part.versions == 0)) (list_all (is_one part.holds) part.versions) halves.0
      in let sizes = and_parts (ascend_from 1 part.versions && are_there count part.holds) (nat_le part.records d.records) halves.1
      in let there = and_parts (ascend_from 1 part.versions) (are_there count part.holds) sizes.0
      in all_by (is_one vids) part.versions (λ vid one.
      let range = there_at part.holds vid there.1 (all_at (is_one part.holds) part.versions vid held.1 one) in all vid range.0 range.1)

  -- ---- there are some parts, and no more than versions

  long_nodes : length (graph.reduced (graph_of d.versions)) ≡ count
  long_nodes = length-map (graph_of d.versions) graph.node_of ∙ length-map d.versions _

  split_at : (p q : ℕ) → AreSplit count (parts_at p q d)
  split_at p q = subst (λ (n : ℕ). AreSplit n (parts_at p q d)) long_nodes (split_parts (graph.reduced (graph_of d.versions)) p q)

  are_listed : (parts : List (List ℕ)) → list_all is_some parts ≡ true → list_all (are_there count) parts ≡ true → All (IsListed count) parts
  are_listed [] some there k e low = absurd (omega (arith, low))
  are_listed (part ∷ parts) some there zero e low =
      let here = (and_parts (are_there count part) (list_all (are_there count) parts) there).0
      in record {
        some = one_more part (not-true _ (and_parts (is_some part) (list_all is_some parts) some).0);
        ascend = ascend-in 1 part (and_parts _ _ here).0;
        there = λ vid one. (there_at part vid here one).1;
      }
    where
      one_more : (vs : List ℕ) → (length vs == 0) ≡ false → 1 ≤ length vs
      one_more [] out = absurd cc
      one_more (v ∷ vs) out = omega arith
  are_listed (part ∷ parts) some there (suc k) e low =
      are_listed parts (and_parts (is_some part) (list_all is_some parts) some).1 (and_parts (are_there count part) (list_all (are_there count) parts) there).1 k e (omega (arith, low))

  few_parts : (p q : ℕ) → length (parts_at p q d) ≤ count
  few_parts p q =
      let split = split_at p q
      in parts-few d p q (parts_at p q d) (record { parts_are = refl; each = are_listed (parts_at p q d) split.some split.there; once = split.once })

  some_parts : (p q : ℕ) → 1 ≤ count → 1 ≤ length (parts_at p q d)
  some_parts p q some = by (parts_at p q d) ((split_at p q).once 1 (omega arith) some)
    where
      by : (parts : List (List ℕ)) → lists_with 1 parts ≡ 1 → 1 ≤ length parts
      by [] once = absurd (omega (arith, once))
      by (part ∷ parts) once = omega arith

few_versions : (vs : List (VersionNumbers Extent)) → are_versions vs ≡ true → (1 ≤ length vs) × (length vs ≤ 65535)
few_versions [] are = absurd cc
few_versions (v ∷ vs) are = (omega arith, leb-true (length (v ∷ vs)) 65535 (and_parts (nat_le (length (v ∷ vs)) 65535) (length v.parents == 0 && parents_follow (v ∷ []) vs) are).0)

-- ---- all of it

module _ (p q : ℕ) (said : List PlanTarget) (d : SetNumbers Extent Extent) (whole : IsWhole d) where
  abbrev parts : List (List ℕ)
  parts = parts_at p q d

  abbrev targets : List TargetNumbers
  targets = targets_of parts said

  abbrev plan : PlanNumbers Extent
  plan = record { p = p; q = q; targets = targets; at = 0; copied = 0; segments = [] }

  abbrev vids : List ℕ
  vids = flat_map (λ (t : TargetNumbers). t.versions) targets

  record Plans : Type 0 where
    threshold : is_threshold p q ≡ true
    low : d.next_part ≤ 4294000000
    long : length said ≡ length parts
    may : may_be_targets d targets ≡ true

  plans_of : plan_off p q said d ≡ None → Plans
  plans_of off_none =
      let tests = off-none (is_none d.plan && (is_threshold p q && nat_le d.next_part 4294000000)) off.Plan (off_unless (length said == length parts && may_be_targets d targets) off.Count) off_none
      in let numbers = and_parts (is_threshold p q) (nat_le d.next_part 4294000000) (and_parts (is_none d.plan) (is_threshold p q && nat_le d.next_part 4294000000) tests.0).1
      in let counts = and_parts (length said == length parts) (may_be_targets d targets) (off-true (length said == length parts && may_be_targets d targets) off.Count tests.1)
      in record {
        threshold = numbers.0;
        low = leb-true d.next_part 4294000000 numbers.1;
        long = eqb-true (length said) (length parts) counts.0;
        may = counts.1;
      }

  module _ (so : Plans) where
    long_targets : length targets ≡ length parts
    long_targets = sym (length-map targets (λ (t : TargetNumbers). t.versions)) ∙ ap (λ (ps : List (List ℕ)). length ps) (versions-of parts said so.long)

    all_targets : targets_from 0 targets ≡ targets
    all_targets = from_first targets

    sources : are_sources d.parts vids targets ≡ true
    sources =
        sources_are d vids targets
        (all_more (is_part (length d.versions) d.records) (λ (part : PartNumbers Extent). list_all (is_one vids) part.versions) d.parts
        (part_within d vids (λ vid low high. in_targets vid parts said so.long (omega (arith, (split_at d p q).once vid low high)))) (parts_are d whole.parts).each)
        so.may

    sources_from : are_sources d.parts (flat_map (λ t. t.versions) (targets_from 0 targets)) (targets_from 0 targets) ≡ true
    sources_from = subst (λ (ts : List TargetNumbers). are_sources d.parts (flat_map (λ (t : TargetNumbers). t.versions) ts) ts ≡ true) (sym all_targets) sources

    plan_runs : is_plan (planned p q said d) (Some plan) ≡ true
    plan_runs =
        let some = some_parts d p q (few_versions d.versions whole.versions).0
        in let low : 0 < length targets = omega (arith, some, long_targets)
        in let first = from_next 0 targets low
        in let t : TargetNumbers = current plan
        in let most : t.kept_records ≤ t.size = first_within d.parts (flat_map (λ (u : TargetNumbers). u.versions) (targets_from 0 targets)) (targets_from 0 targets) (targets_from (0 + 1) targets) t first sources_from
        in let split = split_at d p q
        in and_from _ _ (and_from _ _ (lt-ltb 0 (length targets) low) (le-leb (0 + t.kept_records) t.size (omega (arith, most))))
        (and_from _ _ (targets_are d parts said so.long split.some split.there (λ vid one high. omega (arith, split.once vid one high)) so.may) sources_from)

    parts_planned : are_parts (planned p q said d) ≡ true
    parts_planned =
        let were = parts_are d whole.parts
        in let left : length (targets_from 0 targets) ≡ length targets = ap (λ (ts : List TargetNumbers). length ts) all_targets
        in let few = few_parts d p q
        in let most = (few_versions d.versions whole.versions).1
        in parts_test (planned p q said d) (record { ids = were.ids; below = were.below; once = were.once; each = were.each; room = omega (arith, so.low, left, long_targets, few, most) })

    placed_planned : are_placed (planned p q said d) ≡ true
    placed_planned =
        let lists = and_parts _ _ whole.placed
        in and_from _ _ lists.0 (and_from _ _ (and_parts _ _ lists.1).0 refl)

    said_planned : threshold_in p q ≡ Some (p, q)
    said_planned =
        let low = leb-true 1 p (and_parts (nat_le 1 p) (nat_le p q && nat_le q 1000000) so.threshold).0
        in let other : (p == 0) ≡ false = ne_eqb p 0 (λ e. absurd (omega (arith, e, low)))
        in rw other refl

    planned_whole : IsWhole (planned p q said d)
    planned_whole = record {
      named = whole.named;
      schema = whole.schema;
      versions = whole.versions;
      messages = whole.messages;
      records = whole.records;
      parts = parts_planned;
      threshold = or_left (is_threshold p q) ((p == 0 && q == 0) && false) so.threshold;
      said = said_planned;
      runs = refl;
      plan = plan_runs;
      placed = placed_planned;
    }

pub plan_whole : (p q : ℕ) (targets : List PlanTarget) (d : SetNumbers Extent Extent) → IsWhole d → plan_off p q targets d ≡ None → IsWhole (planned p q targets d)
plan_whole p q targets d whole off_none = planned_whole p q targets d whole (plans_of p q targets d whole off_none)
