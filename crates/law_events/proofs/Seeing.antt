-- The numbers of a dataset, and those that decide on its next version's place.
use Rattle.std.proofs.Common.{◌≡◌, ℕ, suc, ◌+◌, ◌-◌, Bool, true, false, ◌==◌, List, [], ◌∷◌, ◌++◌, length, map, refl, sym, ◌∙◌, ap, inl, inr, append_assoc}
use Rattle.std.specs.Prelude.{Option, Some, None, ◌||◌, if◌then◌else◌, slice_index_or}
use Rattle.std.specs.List.{list_any, sum_by, sum}
use Rattle.std.proofs.lemmas.Bool.{cases_Bool, eq-eqb}
use Rattle.std.proofs.lemmas.List.{map-append, append-nil, length-map}
use Rattle.std.proofs.lemmas.List.Sums.{sum_by-cons}
use Rattle.std.proofs.Math.ListN.{get_or-map}
use Rattle.ov_place.specs.Placement.{placed}
use Rattle.ov_place.specs.declared.place_facts.Place.{Place}
use Rattle.ov_place.specs.declared.place_facts.Place.TheVariants.{Own, Join}
use Rattle.ov_model.specs.Book.{Version}
use Rattle.ov_model.specs.Moves as moves
use Rattle.ov_model.specs.Records.{Rec, recs, record_of, records_of, of_version, order_of}
use Rattle.ov_model.specs.World as world
use Rattle.ov_model.specs.World.{Part, Target, Plan, Dataset, held, part_of, is_one, copied_records}
use Rattle.ov_catalog.specs.Applying.{rows_at, part_serving, part_numbered, id_in, records_in, targets_from, is_unmoved, copied_in, facts_of, is_place}
use Rattle.ov_catalog.specs.Numbers.{VersionNumbers, PartNumbers}
use Rattle.ov_catalog.specs.Shown.{Rids, Records, shown_versions, shown_part, shown_target, shown_plan, shown_set, held_by}

pub versions_long : (all : List Rec) (done : List (List Rec)) (vs : List Version) → length (shown_versions all done vs) ≡ length vs
versions_long all done [] = refl
versions_long all done (v ∷ vs) = ap (λ n. suc n) (versions_long all (done ++ records_of v done ∷ []) vs)

-- ---- the rows of a version

shown_rows : (all : List Rec) (done : List (List Rec)) (vs : List Version) → map (λ (v : VersionNumbers Rids). v.rows) (shown_versions all done vs) ≡ map (λ (v : Version). length v.rows) vs
shown_rows all done [] = refl
shown_rows all done (v ∷ vs) = ap (λ ns. length v.rows ∷ ns) (shown_rows all (done ++ records_of v done ∷ []) vs)

ours_long : (v : Version) (done : List (List Rec)) → length (records_of v done) ≡ length v.rows
ours_long v done = length-map v.rows (record_of v.parents done)

recs_rows : (vs : List Version) (done : List (List Rec)) → map (λ (rs : List Rec). length rs) (recs vs done) ≡ map (λ (rs : List Rec). length rs) done ++ map (λ (v : Version). length v.rows) vs
recs_rows [] done = sym (append-nil (map (λ (rs : List Rec). length rs) done))
recs_rows (v ∷ vs) done =
    recs_rows vs (done ++ records_of v done ∷ [])
    ∙ ap (λ ns. ns ++ map (λ (v : Version). length v.rows) vs) (map-append (λ (rs : List Rec). length rs) done (records_of v done ∷ []))
    ∙ append_assoc (map (λ (rs : List Rec). length rs) done) (length (records_of v done) ∷ []) (map (λ (v : Version). length v.rows) vs)
    ∙ ap (λ n. map (λ (rs : List Rec). length rs) done ++ n ∷ map (λ (v : Version). length v.rows) vs) (ours_long v done)

pub rows_shown : (all : List Rec) (vs : List Version) (vid : ℕ) → rows_at (shown_versions all [] vs) vid ≡ length (of_version (recs vs []) vid)
rows_shown all vs vid =
    ap (λ ns. slice_index_or ns (vid - 1) 0) (shown_rows all [] vs ∙ sym (recs_rows vs []))
    ∙ get_or-map (λ (rs : List Rec). length rs) (recs vs []) (vid - 1) []

-- ---- partitions

pub records_shown : (all : List Rec) (id : ℕ) (parts : List Part) → records_in (part_numbered (map (shown_part all) parts) id) ≡ length (held_by parts id)
records_shown all id [] = refl
records_shown all id (part ∷ parts) =
    elim (cases_Bool (part.id == id)) [
      | inl e ↦ rw e refl
      | inr e ↦ rw e (records_shown all id parts)
    ]

serving_shown : (all : List Rec) (vid : ℕ) (parts : List Part) → id_in (part_serving (map (shown_part all) parts) vid) ≡ part_of parts vid
serving_shown all vid [] = refl
serving_shown all vid (part ∷ parts) =
    elim (cases_Bool (is_one part.versions vid)) [
      | inl e ↦ rw e refl
      | inr e ↦ rw e (serving_shown all vid parts)
    ]

sum_shown : (all : List Rec) (parts : List Part) → sum_by (λ (part : PartNumbers Records). part.records) (map (shown_part all) parts) ≡ sum (map (λ (part : Part). length (held part)) parts)
sum_shown all [] = refl
sum_shown all (part ∷ parts) =
    sum_by-cons (λ (p : PartNumbers Records). p.records) (shown_part all part) (map (shown_part all) parts)
    ∙ ap (λ (n : ℕ). length (held part) + n) (sum_shown all parts)
    ∙ sym (sum_by-cons (λ (n : ℕ). n) (length (held part)) (map (λ (part : Part). length (held part)) parts))

copied_shown : (d : Dataset) (plan : Option Plan) → copied_in (shown_plan d plan) ≡ copied_records plan
copied_shown d None = refl
copied_shown d (Some plan) = refl

pub from_shown : (d : Dataset) (at : ℕ) (ts : List Target) → targets_from at (map (shown_target d) ts) ≡ map (shown_target d) (world.targets_from at ts)
from_shown d at [] = refl
from_shown d at (t ∷ ts) = by (at == 0) (from_shown d (at - 1) ts)
  where
    by : (b : Bool) → targets_from (at - 1) (map (shown_target d) ts) ≡ map (shown_target d) (world.targets_from (at - 1) ts)
        → (if b then shown_target d t ∷ map (shown_target d) ts else targets_from (at - 1) (map (shown_target d) ts))
        ≡ map (shown_target d) (if b then t ∷ ts else world.targets_from (at - 1) ts)
    by true rest = refl
    by false rest = rest

waits_shown : (d : Dataset) (vid : ℕ) (ts : List Target) → list_any (λ t. is_one t.versions vid) (map (shown_target d) ts) ≡ list_any (λ t. is_one t.versions vid) ts
waits_shown d vid [] = refl
waits_shown d vid (t ∷ ts) = ap (λ later. is_one t.versions vid || later) (waits_shown d vid ts)

unmoved_shown : (d : Dataset) (plan : Option Plan) (vid : ℕ) → is_unmoved (shown_plan d plan) vid ≡ world.is_unmoved plan vid
unmoved_shown d None vid = refl
unmoved_shown d (Some plan) vid =
    ap (λ ts. list_any (λ t. is_one t.versions vid) ts) (from_shown d plan.at plan.targets) ∙ waits_shown d vid (world.targets_from plan.at plan.targets)

facts_shown : (d : Dataset) (edge : ℕ × ℕ) → facts_of (shown_set d) edge ≡ moves.facts_of d edge
facts_shown d edge = λ i. record {
  threshold = d.threshold;
  unmoved = unmoved_shown d d.plan edge.0 i;
  weight = edge.1;
  records = length (order_of d.cvd.versions);
  stored = sum_shown (order_of d.cvd.versions) d.parts i + copied_shown d d.plan i;
  parent = serving_shown (order_of d.cvd.versions) edge.0 d.parts i;
}

same_place : (p : Place) → is_place p p ≡ true
same_place Own = refl
same_place (Join id) = eq-eqb id id refl

pub place_shown : (d : Dataset) (v : Version) → is_place (moves.placed_at d v) (placed (facts_of (shown_set d) (moves.tree_edge_of d v))) ≡ true
place_shown d v = ap (λ facts. is_place (moves.placed_at d v) (placed facts)) (facts_shown d (moves.tree_edge_of d v)) ∙ same_place (moves.placed_at d v)
