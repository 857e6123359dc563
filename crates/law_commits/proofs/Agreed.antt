-- Where what was read agrees, nothing of a commit's event is off.
use Rattle.std.proofs.Common.{◌≡◌, ◌≤◌, ◌+◌, ◌^◌, ◌==◌, ◌&&◌, ℕ, suc, Bool, true, false, not, List, [], ◌∷◌, ◌++◌, length, map, refl, sym, ◌∙◌, ap, inl, inr, arith}
use Rattle.std.specs.Prelude.{◌≢◌, Option, Some, None, nat_le, IsTrue, is_ok}
use Rattle.std.specs.List.{list_all, zip}
use Rattle.std.specs.Option.{option_or}
use Rattle.std.proofs.lemmas.Bool.{and_from, cases_Bool, eq-eqb, le-leb}
use Rattle.std.proofs.lemmas.List.{length-append}
use Rattle.std.proofs.lemmas.List.Sums.{length-filter, count_by-le-length}
use Rattle.ov_event.specs.declared.event.Event.TheVariants as says
use Rattle.ov_event.specs.declared.event.Placed.{Placed}
use Rattle.ov_graph.specs.Versions.{heaviest}
use Rattle.ov_host.specs.declared.area.Extent.{Extent}
use Rattle.ov_place.specs.Placement.{placed}
use Rattle.ov_place.specs.declared.place_facts.Place.{Place}
use Rattle.ov_place.specs.declared.place_facts.Place.TheVariants.{Own, Join}
use Rattle.ov_segment.specs.declared.numbered.Record.{Record}
use Rattle.ov_value.specs.Making.{widened}
use Rattle.ov_value.specs.Shapes.{Shape}
use Rattle.ov_value.specs.declared.column.Column.{Column}
use Rattle.ov_model.specs.Assigned.{assigned, fresh_rows}
use Rattle.ov_model.specs.Book.{Row}
use Rattle.ov_model.specs.Lists.{IsIn, joined}
use Rattle.ov_model.specs.Placed.{times, AreThere}
use Rattle.ov_model.specs.World.{is_one}
use Rattle.ov_model.proofs.Counting.{filter_times, gone_times, times-append, not_listed}
use Rattle.ov_records.specs.Records.{pairs_of, lists_of, shared}
use Rattle.ov_catalog.specs.declared.field.Field.{Field}
use Rattle.ov_catalog.specs.declared.field.Field.TheVariants as off
use Rattle.ov_catalog.specs.Applying.{format_off, off_unless, rows_at, wide_off, are_distinct, is_parent, are_parents, part_numbered, records_in, facts_of, is_place, is_count, is_list, is_segment, commit_off, of_live, set_numbered, first_off}
use Rattle.ov_catalog.specs.Numbers.{SetNumbers, Numbers}
use Rattle.ov_catalog.specs.Raw.{adding, place_in}
use Rattle.ov_catalog.proofs.Members.{of_append}
use Rattle.ov_catalog.proofs.Serving.{commit_widens}
use Rattle.law_commits.specs.Agreeing.{AreRids, EachAgrees, ParentsAgree, HeldAgrees}
use Rattle.law_commits.specs.Committing.{MayAdd, MayCommit, JoinedAgrees, rids_for, edges_for, place_for, lacking_of, added_for}
use Rattle.law_commits.proofs.Times.{pairs_rid, in_times, times_in, few_numbers, all_distinct}
use Rattle.law_commits.proofs.Rids.{of_assigned, found_by, once, length-assigned, fresh_few, fresh_lacking}
use Rattle.law_commits.proofs.Weights.{shared_own, shared_other}

off_none : (b : Bool) (f : Field) (rest : Option Field) → b ≡ true → rest ≡ None → option_or (off_unless b f) rest ≡ None
off_none true f rest holds none = none
off_none false f rest holds none = cc

off_last : (b : Bool) (f : Field) → b ≡ true → off_unless b f ≡ None
off_last true f holds = refl
off_last false f holds = cc

-- ---- the rids of the parents

module _ (d : SetNumbers Extent Extent) where
  parents_rid : (vids : List ℕ) (parents : List (List Record)) (p : ℕ × Row) → EachAgrees d vids parents → IsIn (joined (lists_of parents)) p → (1 ≤ p.0) × (p.0 ≤ d.records)
  parents_rid [] [] p are is = absurd is
  parents_rid [] (records ∷ parents) p are is = absurd are
  parents_rid (vid ∷ vids) [] p are is = absurd are
  parents_rid (vid ∷ vids) (records ∷ parents) p are is =
      elim (of_append (pairs_of records) (joined (lists_of parents)) p is) [
        | inl here ↦ (are.0.from_one p.0 (pairs_rid records p here), are.0.there p.0 (pairs_rid records p here))
        | inr later ↦ parents_rid vids parents p are.1 later
      ]

  -- ---- edges

  edges_from : (f : List (ℕ × Row) → ℕ) (vids : List ℕ) (parents : List (List Record)) → EachAgrees d vids parents → map (λ edge. edge.0) (zip vids (map f (lists_of parents))) ≡ vids
  edges_from f [] [] are = refl
  edges_from f [] (records ∷ parents) are = absurd are
  edges_from f (vid ∷ vids) [] are = absurd are
  edges_from f (vid ∷ vids) (records ∷ parents) are = ap (λ vs. vid ∷ vs) (edges_from f vids parents are.1)

  edges_long : (f : List (ℕ × Row) → ℕ) (vids : List ℕ) (parents : List (List Record)) → EachAgrees d vids parents → length (zip vids (map f (lists_of parents))) ≡ length vids
  edges_long f [] [] are = refl
  edges_long f [] (records ∷ parents) are = absurd are
  edges_long f (vid ∷ vids) [] are = absurd are
  edges_long f (vid ∷ vids) (records ∷ parents) are = ap (λ n. suc n) (edges_long f vids parents are.1)

  edge_fits : (rows vid weight : ℕ) → (1 ≤ vid) × (vid ≤ length d.versions) → weight ≤ rows → weight ≤ rows_at d.versions vid → is_parent d.versions rows (vid, weight) ≡ true
  edge_fits rows vid weight there own other =
      and_from (nat_le 1 vid && nat_le vid (length d.versions)) (nat_le weight rows && nat_le weight (rows_at d.versions vid))
      (and_from (nat_le 1 vid) (nat_le vid (length d.versions)) (le-leb 1 vid there.0) (le-leb vid (length d.versions) there.1))
      (and_from (nat_le weight rows) (nat_le weight (rows_at d.versions vid)) (le-leb weight rows own) (le-leb weight (rows_at d.versions vid) other))

  edges_fit : (rids : List ℕ) (rows : List Row) → ((n : ℕ) → times rids n ≤ 1) → (vids : List ℕ) (parents : List (List Record)) → EachAgrees d vids parents → AreThere (length d.versions) vids
      → list_all (is_parent d.versions (length rows)) (zip vids (map (shared (zip rids rows)) (lists_of parents))) ≡ true
  edges_fit rids rows single [] [] are there = refl
  edges_fit rids rows single [] (records ∷ parents) are there = absurd are
  edges_fit rids rows single (vid ∷ vids) [] are there = absurd are
  edges_fit rids rows single (vid ∷ vids) (records ∷ parents) are there =
      and_from (is_parent d.versions (length rows) (vid, shared (zip rids rows) (pairs_of records)))
      (list_all (is_parent d.versions (length rows)) (zip vids (map (shared (zip rids rows)) (lists_of parents))))
      (edge_fits (length rows) vid (shared (zip rids rows) (pairs_of records)) there.0 (shared_own rids rows (pairs_of records)) (omega (arith, shared_other rids rows records single, are.0.all)))
      (edges_fit rids rows single vids parents are.1 there.1)

some_long : (vids : List ℕ) → vids ≢ [] → 1 ≤ length vids
some_long [] some = absurd (some refl)
some_long (vid ∷ vids) some = omega arith

-- ---- a commit

module _ (d : SetNumbers Extent Extent) (schema : Shape) (vids message : List ℕ) (rows : List Row) (parents : List (List Record))
    (may : MayCommit d schema vids message rows parents) (agree : ParentsAgree d vids parents) where
  abbrev rids : List ℕ
  rids = assigned rows (lists_of parents) (d.records + 1)

  abbrev fresh : ℕ
  fresh = fresh_rows rows (lists_of parents)

  single : (n : ℕ) → times rids n ≤ 1
  single = once schema (lists_of parents) agree.none_differ rows (d.records + 1) may.rise (λ p is. omega (arith, (parents_rid d vids parents p agree.each is).1))

  bounds : (n : ℕ) → IsIn rids n → (1 ≤ n) × (n ≤ d.records + fresh)
  bounds n is =
      elim (of_assigned rows (lists_of parents) (d.records + 1) n is) [
        | inl found ↦
            let there : (1 ≤ n) × (n ≤ d.records) = parents_rid d vids parents (n, found.0) agree.each (found_by (lists_of parents) found.0 n found.1.1)
            in (there.0, omega (arith, there.1))
        | inr new ↦ (omega (arith, new.0), omega (arith, new.1))
      ]

  pub different : AreRids (length rows) (d.records + fresh) rids
  different = record {
    all = length-assigned rows (lists_of parents) (d.records + 1);
    once = λ n. omega (arith, single n);
    from_one = λ n is. (bounds n is).0;
    there = λ n is. (bounds n is).1;
  }

  few_rows : length rows ≤ d.records + fresh
  few_rows = omega (arith, length-assigned rows (lists_of parents) (d.records + 1), few_numbers rids (d.records + fresh) single (λ n is. (bounds n is).0) (λ n is. (bounds n is).1))

  rows_fit : (nat_le (length rows) 1000000 && (nat_le fresh (length rows) && (nat_le (length rows) (d.records + fresh) && nat_le (d.records + fresh) (2 ^ 31)))) ≡ true
  rows_fit =
      and_from (nat_le (length rows) 1000000) (nat_le fresh (length rows) && (nat_le (length rows) (d.records + fresh) && nat_le (d.records + fresh) (2 ^ 31)))
      (le-leb (length rows) 1000000 may.few)
      (and_from (nat_le fresh (length rows)) (nat_le (length rows) (d.records + fresh) && nat_le (d.records + fresh) (2 ^ 31))
      (le-leb fresh (length rows) (fresh_few rows (lists_of parents)))
      (and_from (nat_le (length rows) (d.records + fresh)) (nat_le (d.records + fresh) (2 ^ 31))
      (le-leb (length rows) (d.records + fresh) few_rows)
      (le-leb (d.records + fresh) (2 ^ 31) may.room)))

  parents_fit : are_parents d.versions (length rows) (edges_for d vids rows parents) ≡ true
  parents_fit =
      let edges : List (ℕ × ℕ) = zip vids (map (shared (zip rids rows)) (lists_of parents))
      in and_from (nat_le 1 (length edges)) (list_all (is_parent d.versions (length rows)) edges && are_distinct (map (λ edge. edge.0) edges))
      (le-leb 1 (length edges) (omega (arith, edges_long d (shared (zip rids rows)) vids parents agree.each, some_long vids may.named.some)))
      (and_from (list_all (is_parent d.versions (length rows)) edges) (are_distinct (map (λ edge. edge.0) edges))
      (edges_fit d rids rows single vids parents agree.each may.named.there)
      (ap are_distinct (edges_from d (shared (zip rids rows)) vids parents agree.each) ∙ eq-eqb _ _ (all_distinct vids may.named.once)))

  -- ---- what the partition takes

  module _ (id : ℕ) (held : List ℕ) (are : HeldAgrees d id held) where
    abbrev lacking : List ℕ
    lacking = lacking_of (assigned rows (lists_of parents) (d.records + 1)) held

    both_once : (n : ℕ) → times (held ++ lacking) n ≤ 1
    both_once n =
        elim (cases_Bool (is_one held n)) [
          | inl there ↦ omega (arith, times-append held lacking n, are.once n, gone_times held rids n there)
          | inr other ↦ omega (arith, times-append held lacking n, not_listed held n other, filter_times (λ rid. not (is_one held rid)) rids n, single n)
        ]

    lacking_bounds : (n : ℕ) → IsIn lacking n → (1 ≤ n) × (n ≤ d.records + fresh)
    lacking_bounds n is = bounds n (times_in rids n (omega (arith, in_times lacking n is, filter_times (λ rid. not (is_one held rid)) rids n)))

    both_bounds : (n : ℕ) → IsIn (held ++ lacking) n → (1 ≤ n) × (n ≤ d.records + fresh)
    both_bounds n is =
        elim (of_append held lacking n is) [
          | inl here ↦ (are.from_one n here, omega (arith, are.there n here))
          | inr later ↦ lacking_bounds n later
        ]

    join_fits : is_count d (length rows) fresh (length lacking) (Join id) ≡ true
    join_fits =
        let kept : ℕ = records_in (part_numbered d.parts id)
        in let added : ℕ = length lacking
        in and_from (nat_le fresh added && nat_le added (length rows)) (nat_le (kept + added) (d.records + fresh))
        (and_from (nat_le fresh added) (nat_le added (length rows))
        (le-leb fresh added (fresh_lacking rows (lists_of parents) (d.records + 1) held (λ n is. omega (arith, are.there n is))))
        (le-leb added (length rows) (omega (
          arith,
          length-filter (λ rid. not (is_one held rid)) rids,
          count_by-le-length (λ rid. not (is_one held rid)) rids,
          length-assigned rows (lists_of parents) (d.records + 1),
        ))))
        (le-leb (kept + added) (d.records + fresh) (omega (
          arith,
          are.all,
          length-append held lacking,
          few_numbers (held ++ lacking) (d.records + fresh) both_once (λ n is. (both_bounds n is).0) (λ n is. (both_bounds n is).1),
        )))

  count_fits : (place : Place) (held : List ℕ) → JoinedAgrees d place held → is_count d (length rows) fresh (added_for place rows rids held) place ≡ true
  count_fits Own held are = eq-eqb (length rows) (length rows) refl
  count_fits (Join id) held are = join_fits id held are

  is_itself : (place : Place) → is_place place place ≡ true
  is_itself Own = refl
  is_itself (Join id) = eq-eqb id id refl

  pub nothing_off : (held : List ℕ) (place : Place) (list segment : Extent) → place ≡ place_for d vids rows parents → JoinedAgrees d place held
      → IsTrue (is_list (length rows) list) → IsTrue (is_segment (added_for place rows rids held) segment)
      → commit_off (length d.versions + 1) message (edges_for d vids rows parents) (length rows) fresh place (added_for place rows rids held) list segment d ≡ None
  nothing_off held place list segment is_place_for are at_list at_segment =
      let vid : ℕ = length d.versions + 1
      in let edges : List (ℕ × ℕ) = edges_for d vids rows parents
      in let added : ℕ = added_for place rows rids held
      in off_none (vid == length d.versions + 1 && nat_le vid 65535) off.Vid _
      (and_from (vid == length d.versions + 1) (nat_le vid 65535) (eq-eqb vid (length d.versions + 1) refl) (le-leb vid 65535 (omega (arith, may.left))))
      (off_none (nat_le (length message) 1024) off.Message _ (le-leb (length message) 1024 may.short)
      (off_none (are_parents d.versions (length rows) edges) off.Parent _ parents_fit
      (off_none (nat_le (length rows) 1000000 && (nat_le fresh (length rows) && (nat_le (length rows) (d.records + fresh) && nat_le (d.records + fresh) (2 ^ 31)))) off.Rows _ rows_fit
      (off_none (is_place place (placed (facts_of d (heaviest edges)))) off.Placing _ (ap (is_place place) (sym is_place_for) ∙ is_itself place)
      (off_none (is_count d (length rows) fresh added place) off.Count _ (count_fits place held are)
      (off_last (is_list (length rows) list && is_segment added segment) off.Place
      (and_from (is_list (length rows) list) (is_segment added segment) at_list at_segment)))))))

pub event_applies : (format : ℕ) (columns : List Column) (n : Numbers Extent Extent) (cvd : ℕ) (d : SetNumbers Extent Extent) (schema : Shape) (vids message : List ℕ) (rows : List Row)
    (parents : List (List Record)) (held : List ℕ) (place : Placed) (list segment : Extent) → set_numbered cvd n ≡ Some d → MayAdd format columns d
    → MayCommit d schema vids message rows parents → ParentsAgree d vids parents
    → place_in place ≡ place_for d vids rows parents → JoinedAgrees d (place_in place) held → IsTrue (is_list (length rows) list)
    → IsTrue (is_segment (added_for (place_in place) rows (rids_for d rows parents) held) segment)
    → first_off format (adding columns (says.Commit cvd (length d.versions + 1) message (edges_for d vids rows parents) (length rows) (fresh_rows rows (lists_of parents)) place
    (added_for (place_in place) rows (rids_for d rows parents) held) list segment)) n ≡ None
event_applies format [] n cvd d schema vids message rows parents held place list segment found may_add may agree is_place_for are at_list at_segment =
    ap (of_live (commit_off (length d.versions + 1) message (edges_for d vids rows parents) (length rows) (fresh_rows rows (lists_of parents)) (place_in place)
    (added_for (place_in place) rows (rids_for d rows parents) held) list segment)) found
    ∙ nothing_off d schema vids message rows parents may agree held (place_in place) list segment is_place_for are at_list at_segment
event_applies format (column ∷ columns) n cvd d schema vids message rows parents held place list segment found may_add may agree is_place_for are at_list at_segment =
    let edges = edges_for d vids rows parents
    in let fresh = fresh_rows rows (lists_of parents)
    in let more = added_for (place_in place) rows (rids_for d rows parents) held
    in let test = wide_off (length d.versions + 1) message (column ∷ columns) edges (length rows) fresh (place_in place) more list segment
    in ap (λ o. option_or o (of_live test (set_numbered cvd n))) (ap format_off may_add.0)
    ∙ ap (of_live test) found
    ∙ commit_widens (length d.versions + 1) message (column ∷ columns) edges (length rows) fresh (place_in place) more list segment d
    (nothing_off d schema vids message rows parents may agree held (place_in place) list segment is_place_for are at_list at_segment)
    (off_last (is_ok (widened d.schema (column ∷ columns))) off.Schema may_add.1)
