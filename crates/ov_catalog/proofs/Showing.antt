-- What a World shows, as a version comes: what was shown stays, and the new version and its records come to it.
use Rattle.std.proofs.Common.{◌≡◌, ◌≤◌, ℕ, suc, ◌+◌, Bool, true, false, ◌==◌, List, [], ◌∷◌, ◌++◌, length, map, refl, sym, ◌∙◌, ap, subst, arith}
use Rattle.std.specs.Prelude.{if◌then◌else◌, Option, Some, None, codes}
use Rattle.std.proofs.lemmas.List.{map-append, length-map, length-append, append-nil}
use Rattle.ov_place.specs.declared.place_facts.Place.{Place}
use Rattle.ov_place.specs.declared.place_facts.Place.TheVariants.{Own, Join}
use Rattle.ov_value.specs.Shapes.{Shape}
use Rattle.ov_value.specs.Spelling.{row_spelling}
use Rattle.ov_model.specs.Book.{Row, Version}
use Rattle.ov_model.specs.Lists.{AreIn, AllAreIn, joined}
use Rattle.ov_model.specs.Moves as moves
use Rattle.ov_model.specs.Moves.{piece_of, placed_at, next_with}
use Rattle.ov_model.specs.Ordered.{CopiesAreInOrder}
use Rattle.ov_model.specs.Placed.{id_times, TargetsAre, PlanIs}
use Rattle.ov_model.specs.Records.{Rec, in_order, ordered_records, recs, records_of, record_of, fresh_in, order_of, rid_in, weights, lacking}
use Rattle.ov_model.specs.World.{Part, Target, Plan, Dataset, held}
use Rattle.ov_model.proofs.Growing.{order_of_more, rid_more}
use Rattle.ov_model.proofs.Origins.{all_known, next_known}
use Rattle.ov_model.proofs.Rids.{Once}
use Rattle.ov_model.proofs.Wanted.{records_in_more}
use Rattle.ov_catalog.specs.Events as events
use Rattle.ov_catalog.specs.Shown.{sorted_by, list_of, kept_as, segment_of, shown_version, shown_versions, shown_part, shown_target, shown_plan, shown_set, held_by, added_to}
use Rattle.ov_catalog.proofs.Ranking.{order_known, added_ordered, added_in, added_once, ordered_long, segments_same as pieces_same}

-- ---- what is known keeps its rid

rids_same : (all more rs : List Rec) → AreIn rs all → map (rid_in (all ++ more)) rs ≡ map (rid_in all) rs
rids_same all more [] are = refl
rids_same all more (r ∷ rs) are = λ i. rid_more all more r are.0 i ∷ rids_same all more rs are.1 i

list_same : (all more rs : List Rec) → AreIn rs all → list_of (all ++ more) rs ≡ list_of all rs
list_same all more rs are = ap (sorted_by (λ rid. rid)) (rids_same all more rs are)

kept_same : (all more rs : List Rec) → AreIn rs all → map (kept_as (all ++ more)) rs ≡ map (kept_as all) rs
kept_same all more [] are = refl
kept_same all more (r ∷ rs) are = λ i. (rid_more all more r are.0 i, row_spelling r.row) ∷ kept_same all more rs are.1 i

segments_same : (all more : List Rec) (pieces : List (List Rec)) → AllAreIn pieces all → map (segment_of (all ++ more)) pieces ≡ map (segment_of all) pieces
segments_same all more [] are = refl
segments_same all more (piece ∷ pieces) are = λ i. sorted_by (λ kept. kept.0) (kept_same all more piece are.0 i) ∷ segments_same all more pieces are.1 i

-- the pieces of partitions have known records alone
abbrev pub PiecesAreIn : List Rec → List Part → Type 0
PiecesAreIn all [] = Unit {0}
PiecesAreIn all (part ∷ parts) = AllAreIn part.pieces all × PiecesAreIn all parts

part_same : (all more : List Rec) (part : Part) → AllAreIn part.pieces all → shown_part (all ++ more) part ≡ shown_part all part
part_same all more part are = λ i. record {
  id = part.id;
  versions = part.versions;
  holds = part.holds;
  records = length (held part);
  segments = segments_same all more part.pieces are i;
}

parts_same : (all more : List Rec) (parts : List Part) → PiecesAreIn all parts → map (shown_part (all ++ more)) parts ≡ map (shown_part all) parts
parts_same all more [] are = refl
parts_same all more (part ∷ parts) are = λ i. part_same all more part are.0 i ∷ parts_same all more parts are.1 i

-- ---- versions

pub before_in : (done : List (List Rec)) (l all : List Rec) → AllAreIn (done ++ l ∷ []) all → AllAreIn done all × AreIn l all
before_in [] l all are = (tt, are.0)
before_in (x ∷ done) l all are = ((are.0, (before_in done l all are.1).0), (before_in done l all are.1).1)

pub done_in : (vs : List Version) (done : List (List Rec)) (all : List Rec) → AllAreIn (recs vs done) all → AllAreIn done all
done_in [] done all are = are
done_in (v ∷ vs) done all are = (before_in done (records_of v done) all (done_in vs (done ++ records_of v done ∷ []) all are)).0

versions_same : (all more : List Rec) (done : List (List Rec)) (vs : List Version) → AllAreIn (recs vs done) all → shown_versions (all ++ more) done vs ≡ shown_versions all done vs
versions_same all more done [] are = refl
versions_same all more done (v ∷ vs) are =
    let rs : List Rec = records_of v done
    in let ours : AreIn rs all = (before_in done rs all (done_in vs (done ++ rs ∷ []) all are)).1
    in λ i. events.version_of (weights v.parents rs done) v.message (length v.rows) (length (fresh_in rs (length done + 1))) (list_same all more rs ours i)
    ∷ versions_same all more (done ++ rs ∷ []) vs are i

versions_more : (all : List Rec) (done : List (List Rec)) (vs : List Version) (v : Version) → shown_versions all done (vs ++ v ∷ []) ≡ shown_versions all done vs ++ shown_version all (recs vs done) v ∷ []
versions_more all done [] v = refl
versions_more all done (w ∷ vs) v = ap (λ ws. shown_version all done w ∷ ws) (versions_more all (done ++ records_of w done ∷ []) vs v)

versions_long : (all : List Rec) (done : List (List Rec)) (vs : List Version) → length (shown_versions all done vs) ≡ length vs
versions_long all done [] = refl
versions_long all done (v ∷ vs) = ap (λ n. suc n) (versions_long all (done ++ records_of v done ∷ []) vs)

-- ---- partitions

pub piece_all : (rs : List Rec) → joined (piece_of rs) ≡ rs
piece_all [] = refl
piece_all (r ∷ rs) = append-nil (r ∷ rs)

pub joined_long : (a b : List (List Rec)) → length (joined (a ++ b)) ≡ length (joined a) + length (joined b)
joined_long [] b = omega arith
joined_long (x ∷ a) b = omega (arith, length-append x (joined (a ++ b)), length-append x (joined a), joined_long a b)

joined_shown : (all more : List Rec) (vid : ℕ) (rs : List Rec) (part : Part) → AllAreIn part.pieces all
    → shown_part (all ++ more) (moves.with_joined vid rs part)
    ≡ events.with_joined vid (length (lacking rs (held part))) (map (segment_of (all ++ more)) (piece_of (lacking rs (held part)))) (shown_part all part)
joined_shown all more vid rs part are = λ i. record {
  id = part.id;
  versions = part.versions ++ vid ∷ [];
  holds = part.holds ++ vid ∷ [];
  records = long i;
  segments = same i;
}
  where
    long : length (held (moves.with_joined vid rs part)) ≡ length (held part) + length (lacking rs (held part))
    long = joined_long part.pieces (piece_of (lacking rs (held part))) ∙ ap (λ xs. length (held part) + length xs) (piece_all (lacking rs (held part)))

    same : map (segment_of (all ++ more)) (part.pieces ++ piece_of (lacking rs (held part))) ≡ map (segment_of all) part.pieces ++ map (segment_of (all ++ more)) (piece_of (lacking rs (held part)))
    same = map-append (segment_of (all ++ more)) part.pieces (piece_of (lacking rs (held part)))
        ∙ ap (λ ss. ss ++ map (segment_of (all ++ more)) (piece_of (lacking rs (held part)))) (segments_same all more part.pieces are)

-- where none has the number
unjoined : (all more : List Rec) (id vid : ℕ) (rs : List Rec) (parts : List Part) → PiecesAreIn all parts → id_times parts id ≡ 0
    → map (shown_part (all ++ more)) (map (λ part. if part.id == id then moves.with_joined vid rs part else part) parts) ≡ map (shown_part all) parts
unjoined all more id vid rs [] are none = refl
unjoined all more id vid rs (part ∷ parts) are none = by (part.id == id) none (unjoined all more id vid rs parts are.1)
  where
    by : (b : Bool) → (if b then 1 else 0) + id_times parts id ≡ 0
        → (id_times parts id ≡ 0 → map (shown_part (all ++ more)) (map (λ part. if part.id == id then moves.with_joined vid rs part else part) parts) ≡ map (shown_part all) parts)
        → shown_part (all ++ more) (if b then moves.with_joined vid rs part else part) ∷ map (shown_part (all ++ more)) (map (λ part. if part.id == id then moves.with_joined vid rs part else part) parts)
        ≡ shown_part all part ∷ map (shown_part all) parts
    by true none rest = absurd (omega (arith, none))
    by false none rest = λ i. part_same all more part are.0 i ∷ rest (omega (arith, none)) i

join_shown : (all more : List Rec) (id vid : ℕ) (rs : List Rec) (parts : List Part) → PiecesAreIn all parts → id_times parts id ≤ 1
    → map (shown_part (all ++ more)) (map (λ part. if part.id == id then moves.with_joined vid rs part else part) parts)
    ≡ events.join_at id vid (length (lacking rs (held_by parts id))) (map (segment_of (all ++ more)) (piece_of (lacking rs (held_by parts id)))) (map (shown_part all) parts)
join_shown all more id vid rs [] are once = refl
join_shown all more id vid rs (part ∷ parts) are once = by (part.id == id) once (join_shown all more id vid rs parts are.1)
  where
    by : (b : Bool) → (if b then 1 else 0) + id_times parts id ≤ 1
        → (id_times parts id ≤ 1 → map (shown_part (all ++ more)) (map (λ part. if part.id == id then moves.with_joined vid rs part else part) parts)
        ≡ events.join_at id vid (length (lacking rs (held_by parts id))) (map (segment_of (all ++ more)) (piece_of (lacking rs (held_by parts id)))) (map (shown_part all) parts))
        → shown_part (all ++ more) (if b then moves.with_joined vid rs part else part) ∷ map (shown_part (all ++ more)) (map (λ part. if part.id == id then moves.with_joined vid rs part else part) parts)
        ≡ (if b
        then events.with_joined vid (length (lacking rs (if b then held part else held_by parts id))) (map (segment_of (all ++ more)) (piece_of (lacking rs (if b then held part else held_by parts id)))) (shown_part all part) ∷ map (shown_part all) parts
        else shown_part all part ∷ events.join_at id vid (length (lacking rs (if b then held part else held_by parts id))) (map (segment_of (all ++ more)) (piece_of (lacking rs (if b then held part else held_by parts id)))) (map (shown_part all) parts))
    by true once rest = λ i. joined_shown all more vid rs part are.0 i ∷ unjoined all more id vid rs parts are.1 (omega (arith, once)) i
    by false once rest = λ i. part_same all more part are.0 i ∷ rest (omega (arith, once)) i

own_shown : (all : List Rec) (id vid : ℕ) (rs : List Rec) → shown_part all (moves.own_part id vid rs) ≡ events.own_part id vid (length rs) (map (segment_of all) (piece_of rs))
own_shown all id vid rs = λ i. record {
  id = id;
  versions = vid ∷ [];
  holds = vid ∷ [];
  records = length (piece_all rs i);
  segments = map (segment_of all) (piece_of rs);
}

placed_shown : (all more : List Rec) (place : Place) (next vid : ℕ) (rs : List Rec) (parts : List Part) → PiecesAreIn all parts → ((id : ℕ) → id_times parts id ≤ 1)
    → map (shown_part (all ++ more)) (moves.parts_with place next vid rs parts)
    ≡ events.parts_with place next vid (length (added_to place parts rs)) (map (segment_of (all ++ more)) (piece_of (added_to place parts rs))) (map (shown_part all) parts)
placed_shown all more Own next vid rs parts are once =
    map-append (shown_part (all ++ more)) parts (moves.own_part next vid rs ∷ [])
    ∙ (λ i. parts_same all more parts are i ++ own_shown (all ++ more) next vid rs i ∷ [])
placed_shown all more (Join id) next vid rs parts are once = join_shown all more id vid rs parts are (once id)

-- ---- a version more

targets_same : (v : Version) (d : Dataset) (ts : List Target) → TargetsAre (length d.cvd.versions) ts → map (shown_target (moves.with_version v d)) ts ≡ map (shown_target d) ts
targets_same v d [] are = refl
targets_same v d (t ∷ ts) are = λ i.
    record {
      versions = t.versions;
      size = length (records_in_more d.cvd.versions v d.cvd (moves.with_version v d).cvd t.versions refl refl are.0 i);
      source = t.source;
      kept = t.kept;
      kept_records = t.kept_records;
    }
    ∷ targets_same v d ts are.1 i

-- what a plan shows stays, as its targets have versions that were there, and its copies records that were
plan_same : (v : Version) (d : Dataset) (plan : Option Plan) → PlanIs (length d.cvd.versions) plan → CopiesAreInOrder (order_of d.cvd.versions) plan
    → shown_plan (moves.with_version v d) plan ≡ shown_plan d plan
plan_same v d None are order = refl
plan_same v d (Some plan) are order =
    let more : List Rec = fresh_in (records_of v (recs d.cvd.versions [])) (1 + length (recs d.cvd.versions []))
    in let segments : map (segment_of (order_of (d.cvd.versions ++ v ∷ []))) plan.copied ≡ map (segment_of (order_of d.cvd.versions)) plan.copied =
    ap (λ all. map (segment_of all) plan.copied) (order_of_more d.cvd.versions v)
    ∙ segments_same (order_of d.cvd.versions) more plan.copied (order_known (order_of d.cvd.versions) plan.copied order)
    in λ i. Some (record {
      p = plan.p;
      q = plan.q;
      targets = targets_same v d plan.targets are i;
      at = plan.at;
      copied = length (joined plan.copied);
      segments = segments i;
    })

-- what a version brings to its partition, in the order of rids or in that of its rows
brings_same : (d : Dataset) (v : Version) → Once (records_of v (recs d.cvd.versions [])) → Once (order_of (d.cvd.versions ++ v ∷ []))
    → (length (added_to (placed_at d v) d.parts (ordered_records d.cvd.versions v)) ≡ length (added_to (placed_at d v) d.parts (records_of v (recs d.cvd.versions []))))
    × (map (segment_of (order_of (d.cvd.versions ++ v ∷ []))) (piece_of (added_to (placed_at d v) d.parts (ordered_records d.cvd.versions v)))
    ≡ map (segment_of (order_of (d.cvd.versions ++ v ∷ []))) (piece_of (added_to (placed_at d v) d.parts (records_of v (recs d.cvd.versions [])))))
brings_same d v once all_once =
    let all : List Rec = order_of (d.cvd.versions ++ v ∷ [])
    in let rs : List Rec = records_of v (recs d.cvd.versions [])
    in let brought : List Rec = added_to (placed_at d v) d.parts rs
    in let is : added_to (placed_at d v) d.parts (in_order all rs) ≡ in_order all brought = added_ordered all rs (placed_at d v) d.parts
    in let known : AreIn brought all = added_in all rs (placed_at d v) d.parts (next_known d.cvd.versions v)
    in let apart : Once brought = added_once rs (placed_at d v) d.parts once
    in (
      ap length is ∙ ordered_long all brought known apart all_once,
      ap (λ xs. map (segment_of all) (piece_of xs)) is ∙ pieces_same all brought known apart all_once,
    )

pub version_shown : (d : Dataset) (v : Version) → PiecesAreIn (order_of d.cvd.versions) d.parts → ((id : ℕ) → id_times d.parts id ≤ 1)
    → PlanIs (length d.cvd.versions) d.plan → CopiesAreInOrder (order_of d.cvd.versions) d.plan
    → Once (records_of v (recs d.cvd.versions [])) → Once (order_of (d.cvd.versions ++ v ∷ []))
    → shown_set (moves.with_version v d)
    ≡ events.with_version (shown_version (order_of (d.cvd.versions ++ v ∷ [])) (recs d.cvd.versions []) v) (placed_at d v)
    (length (added_to (placed_at d v) d.parts (records_of v (recs d.cvd.versions []))))
    (map (segment_of (order_of (d.cvd.versions ++ v ∷ []))) (piece_of (added_to (placed_at d v) d.parts (records_of v (recs d.cvd.versions [])))))
    (shown_set d)
version_shown d v are once targets copies rows_once all_once = λ i. record {
  number = d.cvd.number;
  name = d.cvd.name;
  schema = d.cvd.schema;
  versions = versions i;
  parts = parts i;
  next_part = next_with (placed_at d v) d.next_part;
  threshold = d.threshold;
  plan = plan_same v d d.plan targets copies i;
  records = records i;
}
  where
    rs : List Rec
    rs = records_of v (recs d.cvd.versions [])

    more : List Rec
    more = fresh_in (records_of v (recs d.cvd.versions [])) (1 + length (recs d.cvd.versions []))

    grown : order_of (d.cvd.versions ++ v ∷ []) ≡ order_of d.cvd.versions ++ more
    grown = order_of_more d.cvd.versions v

    versions : shown_versions (order_of (d.cvd.versions ++ v ∷ [])) [] (d.cvd.versions ++ v ∷ [])
        ≡ shown_versions (order_of d.cvd.versions) [] d.cvd.versions ++ shown_version (order_of (d.cvd.versions ++ v ∷ [])) (recs d.cvd.versions []) v ∷ []
    versions = versions_more (order_of (d.cvd.versions ++ v ∷ [])) [] d.cvd.versions v
        ∙ ap (λ ws. ws ++ shown_version (order_of (d.cvd.versions ++ v ∷ [])) (recs d.cvd.versions []) v ∷ [])
        (ap (λ all. shown_versions all [] d.cvd.versions) grown ∙ versions_same (order_of d.cvd.versions) more [] d.cvd.versions (all_known d.cvd.versions))

    -- in whatever order its records come to its partition
    each : (xs : List Rec) → map (shown_part (order_of (d.cvd.versions ++ v ∷ []))) (moves.parts_with (placed_at d v) d.next_part (length d.cvd.versions + 1) xs d.parts)
        ≡ events.parts_with (placed_at d v) d.next_part (length (shown_versions (order_of d.cvd.versions) [] d.cvd.versions) + 1) (length (added_to (placed_at d v) d.parts xs))
        (map (segment_of (order_of (d.cvd.versions ++ v ∷ []))) (piece_of (added_to (placed_at d v) d.parts xs))) (map (shown_part (order_of d.cvd.versions)) d.parts)
    each xs =
        subst (λ all. map (shown_part all) (moves.parts_with (placed_at d v) d.next_part (length d.cvd.versions + 1) xs d.parts)
        ≡ events.parts_with (placed_at d v) d.next_part (length (shown_versions (order_of d.cvd.versions) [] d.cvd.versions) + 1) (length (added_to (placed_at d v) d.parts xs))
        (map (segment_of all) (piece_of (added_to (placed_at d v) d.parts xs))) (map (shown_part (order_of d.cvd.versions)) d.parts)) (sym grown)
        (placed_shown (order_of d.cvd.versions) more (placed_at d v) d.next_part (length d.cvd.versions + 1) xs d.parts are once
        ∙ ap (λ n. events.parts_with (placed_at d v) d.next_part (n + 1) (length (added_to (placed_at d v) d.parts xs))
        (map (segment_of (order_of d.cvd.versions ++ more)) (piece_of (added_to (placed_at d v) d.parts xs))) (map (shown_part (order_of d.cvd.versions)) d.parts))
        (sym (versions_long (order_of d.cvd.versions) [] d.cvd.versions)))

    -- the same, in the order of rids
    brings : ((length (added_to (placed_at d v) d.parts (ordered_records d.cvd.versions v)) ≡ length (added_to (placed_at d v) d.parts (records_of v (recs d.cvd.versions []))))
        × (map (segment_of (order_of (d.cvd.versions ++ v ∷ []))) (piece_of (added_to (placed_at d v) d.parts (ordered_records d.cvd.versions v)))
        ≡ map (segment_of (order_of (d.cvd.versions ++ v ∷ []))) (piece_of (added_to (placed_at d v) d.parts (records_of v (recs d.cvd.versions []))))))
    brings = brings_same d v rows_once all_once

    parts : map (shown_part (order_of (d.cvd.versions ++ v ∷ []))) (moves.parts_with (placed_at d v) d.next_part (length d.cvd.versions + 1) (ordered_records d.cvd.versions v) d.parts)
        ≡ events.parts_with (placed_at d v) d.next_part (length (shown_versions (order_of d.cvd.versions) [] d.cvd.versions) + 1)
        (length (added_to (placed_at d v) d.parts (records_of v (recs d.cvd.versions []))))
        (map (segment_of (order_of (d.cvd.versions ++ v ∷ []))) (piece_of (added_to (placed_at d v) d.parts (records_of v (recs d.cvd.versions []))))) (map (shown_part (order_of d.cvd.versions)) d.parts)
    parts = each (ordered_records d.cvd.versions v)
        ∙ (λ i. events.parts_with (placed_at d v) d.next_part (length (shown_versions (order_of d.cvd.versions) [] d.cvd.versions) + 1)
        (brings.0 i) (brings.1 i) (map (shown_part (order_of d.cvd.versions)) d.parts))

    records : length (order_of (d.cvd.versions ++ v ∷ [])) ≡ length (order_of d.cvd.versions) + length (fresh_in rs (length (recs d.cvd.versions []) + 1))
    records =
        let swap : 1 + length (recs d.cvd.versions []) ≡ length (recs d.cvd.versions []) + 1 = omega arith
        in ap length grown ∙ length-append (order_of d.cvd.versions) more ∙ ap (λ n. length (order_of d.cvd.versions) + length (fresh_in rs n)) swap

-- ---- a dataset as an Init makes it

all_fresh : (rows : List Row) → fresh_in (map (record_of [] []) rows) 1 ≡ map (record_of [] []) rows
all_fresh [] = refl
all_fresh (row ∷ rows) = ap (λ rs. record_of [] [] row ∷ rs) (all_fresh rows)

fresh_long : (rows : List Row) → length (fresh_in (map (record_of [] []) rows) 1) ≡ length rows
fresh_long rows = ap length (all_fresh rows) ∙ length-map rows (record_of [] [])

pub new_shown : (number : ℕ) (name : List ℕ) (schema : Shape) (rows : List Row) (v : Version) → v ≡ moves.version_of [] (codes "init") rows
    → shown_set (moves.new_set number name schema rows)
    ≡ events.new_set number name schema (length v.rows) (list_of (order_of (v ∷ [])) (records_of v []))
    (map (segment_of (order_of (v ∷ []))) (piece_of (records_of v [])))
new_shown number name schema rows v is =
    subst (λ w. shown_set (moves.new_set number name schema rows)
    ≡ events.new_set number name schema (length w.rows) (list_of (order_of (w ∷ [])) (records_of w []))
    (map (segment_of (order_of (w ∷ []))) (piece_of (records_of w [])))) (sym is)
    (λ i. record {
      number = number;
      name = name;
      schema = schema;
      versions = events.version_of [] (codes "init") (length rows) (fresh_long rows i) (list_of (order_of (first ∷ [])) (records_of first [])) ∷ [];
      parts = parts i ∷ [];
      next_part = 2;
      threshold = None;
      plan = None;
      records = records i;
    })
  where
    first : Version
    first = moves.version_of [] (codes "init") rows

    parts : shown_part (order_of (moves.version_of [] (codes "init") rows ∷ [])) (moves.own_part 1 1 (map (record_of [] []) rows))
        ≡ events.own_part 1 1 (length rows) (map (segment_of (order_of (moves.version_of [] (codes "init") rows ∷ []))) (piece_of (map (record_of [] []) rows)))
    parts = own_shown (order_of (moves.version_of [] (codes "init") rows ∷ [])) 1 1 (map (record_of [] []) rows)
        ∙ ap (λ n. events.own_part 1 1 n (map (segment_of (order_of (moves.version_of [] (codes "init") rows ∷ []))) (piece_of (map (record_of [] []) rows)))) (length-map rows (record_of [] []))

    records : length (order_of (moves.version_of [] (codes "init") rows ∷ [])) ≡ length rows
    records = ap length (append-nil (fresh_in (map (record_of [] []) rows) 1)) ∙ fresh_long rows
