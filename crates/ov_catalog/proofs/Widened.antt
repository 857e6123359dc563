-- What a dataset shows with columns more: the same numbers, lists and segments, under a wider schema.
--     wide_shown      so it is
--     wide_known, wide_rowed      its pieces have known records alone, and its rows are rows of the wider schema
use Rattle.std.proofs.Common.{◌≡◌, ℕ, zero, suc, ◌+◌, Bool, true, false, ◌&&◌, ◌||◌, ◌==◌, List, [], ◌∷◌, ◌++◌, length, map, filter, refl, sym, ◌∙◌, ap, subst}
use Rattle.std.specs.Prelude.{replicate, if◌then◌else◌, Option, Some, None}
use Rattle.std.specs.List.{list_any, flat_map}
use Rattle.std.proofs.lemmas.List.{length-map, map-append}
use Rattle.std.proofs.lemmas.List.Sums.{length-filter}
use Rattle.ov_value.specs.declared.column.Column.{Column}
use Rattle.ov_value.proofs.Longer.{spelling_longer}
use Rattle.ov_model.specs.Book.{Row, Version, extended}
use Rattle.ov_model.specs.Lists.{joined}
use Rattle.ov_model.specs.Moves.{wide, wide_part, wide_plan, wide_rec, wide_version}
use Rattle.ov_model.specs.Plans.{records_in, missing}
use Rattle.ov_model.specs.Records.{Rec, fresh_in, is_among, of_version, order_of, records_of, recs, rid_in, weight, weights}
use Rattle.ov_model.specs.World.{Part, Plan, Target, Dataset, held}
use Rattle.ov_model.proofs.Ordering.{among_wide, filter_wide, order_wide}
use Rattle.ov_model.proofs.Widening.{joined_map, wide_recs, wide_rows, wide_same, wide_version_recs}
use Rattle.ov_catalog.specs.Events as events
use Rattle.ov_catalog.specs.Events.{version_of, with_columns}
use Rattle.ov_catalog.specs.Numbers.{VersionNumbers, PartNumbers, PlanNumbers, SetNumbers, TargetNumbers}
use Rattle.ov_catalog.specs.Shown.{Records, Rids, kept_as, list_of, segment_of, shown_part, shown_plan, shown_set, shown_target, shown_version, shown_versions, sorted_by}

-- ---- records

module _ (n : ℕ) where
  abbrev longer : Rec → Rec
  longer r = wide_rec n r

  pub rid_wide : (all : List Rec) (r : Rec) → rid_in (map longer all) (longer r) ≡ rid_in all r
  rid_wide [] r = refl
  rid_wide (x ∷ all) r = λ i. if r.origin == x.origin && wide_same n r.row x.row i then 1 else rid_wide all r i + 1

  pub rids_wide : (all rs : List Rec) → map (rid_in (map longer all)) (map longer rs) ≡ map (rid_in all) rs
  rids_wide all [] = refl
  rids_wide all (r ∷ rs) = λ i. rid_wide all r i ∷ rids_wide all rs i

  kept_rows : (all rs : List Rec) → map (kept_as (map longer all)) (map longer rs) ≡ map (kept_as all) rs
  kept_rows all [] = refl
  kept_rows all (r ∷ rs) = λ i. (rid_wide all r i, spelling_longer r.row n i) ∷ kept_rows all rs i

  pub list_wide : (all rs : List Rec) → list_of (map longer all) (map longer rs) ≡ list_of all rs
  list_wide all rs = ap (sorted_by (λ rid. rid)) (rids_wide all rs)

  pub segment_wide : (all piece : List Rec) → segment_of (map longer all) (map longer piece) ≡ segment_of all piece
  segment_wide all piece = ap (sorted_by (λ kept. kept.0)) (kept_rows all piece)

  segments_wide : (all : List Rec) (pieces : List (List Rec)) → map (segment_of (map longer all)) (map (map longer) pieces) ≡ map (segment_of all) pieces
  segments_wide all [] = refl
  segments_wide all (piece ∷ pieces) = λ i. segment_wide all piece i ∷ segments_wide all pieces i

  weight_wide : (a b : List Rec) → weight (map longer a) (map longer b) ≡ weight a b
  weight_wide a b =
      sym (length-filter (is_among (map longer b)) (map longer a)) ∙ ap length (filter_wide n (is_among (map longer b)) (is_among b) a (among_wide n b))
      ∙ length-map (filter (is_among b) a) longer ∙ length-filter (is_among b) a

  weights_wide : (ps : List ℕ) (rs : List Rec) (done : List (List Rec)) → weights ps (map longer rs) (map (map longer) done) ≡ weights ps rs done
  weights_wide [] rs done = refl
  weights_wide (p ∷ ps) rs done =
      λ i. (p, (ap (weight (map longer rs)) (wide_version_recs n done p) ∙ weight_wide rs (of_version done p)) i) ∷ weights_wide ps rs done i

  fresh_wide : (rs : List Rec) (origin : ℕ) → length (fresh_in (map longer rs) origin) ≡ length (fresh_in rs origin)
  fresh_wide rs origin =
      ap length (filter_wide n (λ r. r.origin == origin) (λ r. r.origin == origin) rs (λ r. refl)) ∙ length-map (fresh_in rs origin) longer

  -- ---- versions

  records_wide : (done : List (List Rec)) (v : Version) → records_of (wide_version n v) (map (map longer) done) ≡ map longer (records_of v done)
  records_wide done v = wide_rows n v.parents done v.rows

  version_wide : (all : List Rec) (done : List (List Rec)) (v : Version)
      → shown_version (map longer all) (map (map longer) done) (wide_version n v) ≡ shown_version all done v
  version_wide all done v = λ i. version_of (edges i) v.message (length-map v.rows (extended n) i) (fresh i) (list i)
    where
      rs : List Rec
      rs = records_of v done

      edges : weights v.parents (records_of (wide_version n v) (map (map longer) done)) (map (map longer) done) ≡ weights v.parents (records_of v done) done
      edges = ap (λ x. weights v.parents x (map (map longer) done)) (records_wide done v) ∙ weights_wide v.parents (records_of v done) done

      fresh : length (fresh_in (records_of (wide_version n v) (map (map longer) done)) (length (map (map longer) done) + 1)) ≡ length (fresh_in (records_of v done) (length done + 1))
      fresh = (λ i. length (fresh_in (records_wide done v i) (length-map done (map longer) i + 1))) ∙ fresh_wide (records_of v done) (length done + 1)

      list : list_of (map longer all) (records_of (wide_version n v) (map (map longer) done)) ≡ list_of all (records_of v done)
      list = ap (list_of (map longer all)) (records_wide done v) ∙ list_wide all (records_of v done)

  done_more : (done : List (List Rec)) (v : Version)
      → map (map longer) done ++ records_of (wide_version n v) (map (map longer) done) ∷ [] ≡ map (map longer) (done ++ records_of v done ∷ [])
  done_more done v = ap (λ rs. map (map longer) done ++ rs ∷ []) (records_wide done v) ∙ sym (map-append (map longer) done (records_of v done ∷ []))

  versions_wide : (all : List Rec) (done : List (List Rec)) (vs : List Version)
      → shown_versions (map longer all) (map (map longer) done) (map (wide_version n) vs) ≡ shown_versions all done vs
  versions_wide all done [] = refl
  versions_wide all done (v ∷ vs) =
      let rest = ap (λ rss. shown_versions (map longer all) rss (map (wide_version n) vs)) (done_more done v) ∙ versions_wide all (done ++ records_of v done ∷ []) vs
      in λ i. version_wide all done v i ∷ rest i

  -- ---- partitions and the plan

  held_wide : (part : Part) → length (held (wide_part n part)) ≡ length (held part)
  held_wide part = ap length (joined_map longer part.pieces) ∙ length-map (joined part.pieces) longer

  part_wide : (all : List Rec) (part : Part) → shown_part (map longer all) (wide_part n part) ≡ shown_part all part
  part_wide all part = λ i. record {
    id = part.id;
    versions = part.versions;
    holds = part.holds;
    records = held_wide part i;
    segments = segments_wide all part.pieces i;
  }

  parts_wide : (all : List Rec) (parts : List Part) → map (shown_part (map longer all)) (map (wide_part n) parts) ≡ map (shown_part all) parts
  parts_wide all [] = refl
  parts_wide all (part ∷ parts) = λ i. part_wide all part i ∷ parts_wide all parts i

  abbrev done_wide : List Version → List (List Rec)
  done_wide vs = recs (map (wide_version n) vs) []

  among_versions : (done : List (List Rec)) (r : Rec) (vids : List ℕ)
      → list_any (λ vid. is_among (of_version (map (map longer) done) vid) (longer r)) vids ≡ list_any (λ vid. is_among (of_version done vid) r) vids
  among_versions done r [] = refl
  among_versions done r (vid ∷ vids) =
      λ i. (ap (λ rs. is_among rs (longer r)) (wide_version_recs n done vid) ∙ among_wide n (of_version done vid) r) i || among_versions done r vids i

  among_all : (done : List (List Rec)) (all : List Rec) (vids : List ℕ)
      → filter (λ r. list_any (λ vid. is_among (of_version (map (map longer) done) vid) r) vids) (map longer all)
      ≡ map longer (filter (λ r. list_any (λ vid. is_among (of_version done vid) r) vids) all)
  among_all done all vids =
      filter_wide n (λ r. list_any (λ vid. is_among (of_version (map (map longer) done) vid) r) vids)
      (λ r. list_any (λ vid. is_among (of_version done vid) r) vids) all (λ r. among_versions done r vids)

  module _ (d after : Dataset) (versions_are : after.cvd.versions ≡ map (wide_version n) d.cvd.versions) where
    recs_are : recs after.cvd.versions [] ≡ map (map longer) (recs d.cvd.versions [])
    recs_are = ap (λ vs. recs vs []) versions_are ∙ wide_recs n d.cvd.versions []

    order_is : order_of after.cvd.versions ≡ map longer (order_of d.cvd.versions)
    order_is = ap order_of versions_are ∙ order_wide n d.cvd.versions

    pub wide_records_in : (vids : List ℕ) → records_in after.cvd vids ≡ map longer (records_in d.cvd vids)
    wide_records_in vids =
        (λ i. filter (λ r. list_any (λ vid. is_among (of_version (recs_are i) vid) r) vids) (order_is i))
        ∙ among_all (recs d.cvd.versions []) (order_of d.cvd.versions) vids

    size_wide : (vids : List ℕ) → length (records_in after.cvd vids) ≡ length (records_in d.cvd vids)
    size_wide vids = ap length (wide_records_in vids) ∙ length-map (records_in d.cvd vids) longer

    targets_wide : (ts : List Target) → map (shown_target after) ts ≡ map (shown_target d) ts
    targets_wide [] = refl
    targets_wide (t ∷ ts) = λ i.
        record { versions = t.versions; size = size_wide t.versions i; source = t.source; kept = t.kept; kept_records = t.kept_records } ∷ targets_wide ts i

    plan_wide : (plan : Option Plan) → shown_plan after (wide_plan n plan) ≡ shown_plan d plan
    plan_wide None = refl
    plan_wide (Some plan) = λ i. Some (record {
      p = plan.p;
      q = plan.q;
      targets = targets_wide plan.targets i;
      at = plan.at;
      copied = (ap length (joined_map longer plan.copied) ∙ length-map (joined plan.copied) longer) i;
      segments = (ap (λ all. map (segment_of all) (map (map longer) plan.copied)) order_is ∙ segments_wide (order_of d.cvd.versions) plan.copied) i;
    })

pub wide_shown : (column : Column) (added : List Column) (d : Dataset) → shown_set (wide (column ∷ added) d) ≡ with_columns (column ∷ added) (shown_set d)
wide_shown column added d = λ i. record {
  number = d.cvd.number;
  name = d.cvd.name;
  schema = (wide (column ∷ added) d).cvd.schema;
  versions = (ap (λ all. shown_versions all [] (map (wide_version n) d.cvd.versions)) (order_wide n d.cvd.versions)
      ∙ versions_wide n (order_of d.cvd.versions) [] d.cvd.versions) i;
  parts = (ap (λ all. map (shown_part all) (map (wide_part n) d.parts)) (order_wide n d.cvd.versions) ∙ parts_wide n (order_of d.cvd.versions) d.parts) i;
  next_part = d.next_part;
  threshold = d.threshold;
  plan = plan_wide n d (wide (column ∷ added) d) refl d.plan i;
  records = (ap length (order_wide n d.cvd.versions) ∙ length-map (order_of d.cvd.versions) (wide_rec n)) i;
}
  where
    n : ℕ
    n = length (column ∷ added)
