-- What a World shows, as a plan begins and as its steps are made: no version changes, and what is shown of a plan and of
-- partitions changes as the event says.
use Rattle.std.proofs.Common.{◌≡◌, ◌<◌, ℕ, zero, suc, ◌+◌, ◌-◌, Bool, true, false, ◌==◌, List, [], ◌∷◌, ◌++◌, length, map, filter, refl, sym, ◌∙◌, ap, subst, arith}
use Rattle.std.specs.Prelude.{not, nat_lt, take, slice_index_or, if◌then◌else◌, Option, Some, None}
use Rattle.std.proofs.lemmas.Bool.{ne_eqb}
use Rattle.std.proofs.lemmas.List.{map-append, length-map, append-nil}
use Rattle.ov_graph.specs.Splits.{parts_of}
use Rattle.ov_graph.specs.Versions as graph
use Rattle.ov_model.specs.Book.{Version}
use Rattle.ov_model.specs.Lists.{joined}
use Rattle.ov_model.specs.Plans as plans
use Rattle.ov_model.specs.Plans.{graph_of, parts_at, target_of, targets_of, records_in, pieces_of, pieces_at, kept_pieces, no_target, current, missing, leaving, left_parts, target_part, copied_for}
use Rattle.ov_model.specs.Records.{Rec, records_of, order_of}
use Rattle.ov_model.specs.World.{Part, Target, Plan, Dataset, held}
use Rattle.law_partitions.specs.Pieces.{AreBelow, IsKept, PlanIsUnderWay}
use Rattle.law_partitions.proofs.PieceMore.{current_kept}
use Rattle.ov_catalog.specs.Events as events
use Rattle.ov_catalog.specs.Events.{one_at, chosen, segments_at}
use Rattle.ov_catalog.specs.Numbers.{TargetNumbers, PlanNumbers}
use Rattle.ov_catalog.specs.Shown.{Records, segment_of, shown_versions, shown_part, shown_target, shown_plan, shown_set, said_of}
use Rattle.ov_catalog.proofs.Showing.{joined_long}

-- ---- a plan begins

graph_shown : (all : List Rec) (done : List (List Rec)) (vs : List Version) → events.graph_of (shown_versions all done vs) ≡ graph_of vs done
graph_shown all done [] = refl
graph_shown all done (v ∷ vs) = ap (λ rest. graph_of (v ∷ []) done ++ rest) (graph_shown all (done ++ records_of v done ∷ []) vs)

-- the parts of the split are those of the numbers
pub split_shown : (p q : ℕ) (d : Dataset) → events.parts_at p q (shown_set d) ≡ parts_at d p q
split_shown p q d = ap (λ versions. parts_of (graph.reduced versions) p q) (graph_shown (order_of d.cvd.versions) [] d.cvd.versions)

said_shown : (d : Dataset) (parts : List (List ℕ)) → events.targets_of parts (map (λ t. said_of (shown_target d t)) (targets_of d parts)) ≡ map (shown_target d) (targets_of d parts)
said_shown d [] = refl
said_shown d (versions ∷ later) = ap (λ ts. shown_target d (target_of d versions later) ∷ ts) (said_shown d later)

pub targets_shown : (p q : ℕ) (d : Dataset)
    → events.targets_of (events.parts_at p q (shown_set d)) (map (λ t. said_of (shown_target d t)) (targets_of d (parts_at d p q)))
    ≡ map (shown_target d) (targets_of d (parts_at d p q))
targets_shown p q d =
    ap (λ parts. events.targets_of parts (map (λ t. said_of (shown_target d t)) (targets_of d (parts_at d p q)))) (split_shown p q d)
    ∙ said_shown d (parts_at d p q)

pub planned_shown : (p q : ℕ) (d : Dataset)
    → shown_set (plans.planned p q d) ≡ events.planned p q (map (λ t. said_of (shown_target d t)) (targets_of d (parts_at d p q))) (shown_set d)
planned_shown p q d = λ i. events.with_plan (Some (p, q)) (Some (record {
  p = p;
  q = q;
  targets = sym (targets_shown p q d) i;
  at = 0;
  copied = 0;
  segments = [];
})) (shown_set d)

-- ---- a running plan in numbers

abbrev pub plan_numbers : Dataset → Plan → PlanNumbers Records
plan_numbers d plan = record {
  p = plan.p;
  q = plan.q;
  targets = map (shown_target d) plan.targets;
  at = plan.at;
  copied = length (joined plan.copied);
  segments = map (segment_of (order_of d.cvd.versions)) plan.copied;
}

none_filtered : (rs : List Rec) → filter (λ r. false) rs ≡ []
none_filtered [] = refl
none_filtered (r ∷ rs) = none_filtered rs

nothing_shown : (d : Dataset) → events.no_target ≡ shown_target d no_target
nothing_shown d = λ i. record {
  versions = [];
  size = length (sym (none_filtered (order_of d.cvd.versions)) i);
  source = 0;
  kept = [];
  kept_records = 0;
}

current_at : (d : Dataset) (ts : List Target) (at : ℕ) → slice_index_or (map (shown_target d) ts) at events.no_target ≡ shown_target d (slice_index_or ts at no_target)
current_at d [] at = nothing_shown d
current_at d (t ∷ ts) zero = refl
current_at d (t ∷ ts) (suc at) = current_at d ts at

pub current_shown : (d : Dataset) (plan : Plan) → events.current (plan_numbers d plan) ≡ shown_target d (current plan)
current_shown d plan = current_at d plan.targets plan.at

-- ---- a copy

copy_shown : (d : Dataset) (plan : Plan)
    → shown_plan d (copied_for d (Some plan))
    ≡ events.copied_for (length (take 256 (missing d plan))) (segment_of (order_of d.cvd.versions) (take 256 (missing d plan)) ∷ []) (Some (plan_numbers d plan))
copy_shown d plan =
    let piece : List Rec = take 256 (missing d plan)
    in let long : length (joined (plan.copied ++ piece ∷ [])) ≡ length (joined plan.copied) + length piece =
    joined_long plan.copied (piece ∷ []) ∙ ap (λ rs. length (joined plan.copied) + length rs) (append-nil piece)
    in λ i. Some (record {
      p = plan.p;
      q = plan.q;
      targets = map (shown_target d) plan.targets;
      at = plan.at;
      copied = long i;
      segments = map-append (segment_of (order_of d.cvd.versions)) plan.copied (piece ∷ []) i;
    })

pub copied_shown : (d : Dataset) (plan : Plan) → d.plan ≡ Some plan
    → shown_set (plans.copied_more d)
    ≡ events.copied_more (length (take 256 (missing d plan))) (segment_of (order_of d.cvd.versions) (take 256 (missing d plan)) ∷ []) (shown_set d)
copied_shown d plan runs = λ i. events.with_plan d.threshold (same i) (shown_set d)
  where
    count : ℕ
    count = length (take 256 (missing d plan))

    segments : List Records
    segments = segment_of (order_of d.cvd.versions) (take 256 (missing d plan)) ∷ []

    same : shown_plan d (copied_for d d.plan) ≡ events.copied_for count segments (shown_plan d d.plan)
    same = subst (λ found. shown_plan d (copied_for d found) ≡ events.copied_for count segments (shown_plan d found)) (sym runs) (copy_shown d plan)

-- ---- a flip

left_shown : (all : List Rec) (versions : List ℕ) (parts : List Part)
    → map (shown_part all) (left_parts versions parts) ≡ events.left_parts versions (map (shown_part all) parts)
left_shown all versions [] = refl
left_shown all versions (part ∷ parts) = by (not (length (leaving versions part).versions == 0)) (left_shown all versions parts)
  where
    by : (b : Bool) → map (shown_part all) (left_parts versions parts) ≡ events.left_parts versions (map (shown_part all) parts)
        → map (shown_part all) (if b then leaving versions part ∷ left_parts versions parts else left_parts versions parts)
        ≡ (if b then shown_part all (leaving versions part) ∷ events.left_parts versions (map (shown_part all) parts) else events.left_parts versions (map (shown_part all) parts))
    by true rest = ap (λ ps. shown_part all (leaving versions part) ∷ ps) rest
    by false rest = rest

pub segments_shown : (all : List Rec) (id : ℕ) (parts : List Part) → map (segment_of all) (pieces_of parts id) ≡ segments_at id (map (shown_part all) parts)
segments_shown all id [] = refl
segments_shown all id (part ∷ parts) = by (part.id == id) (segments_shown all id parts)
  where
    by : (b : Bool) → map (segment_of all) (pieces_of parts id) ≡ segments_at id (map (shown_part all) parts)
        → map (segment_of all) (if b then part.pieces else pieces_of parts id) ≡ (if b then map (segment_of all) part.pieces else segments_at id (map (shown_part all) parts))
    by true rest = refl
    by false rest = rest

piece_at : (all : List Rec) (pieces : List (List Rec)) (place : ℕ) → place < length pieces → one_at (map (segment_of all) pieces) place ≡ segment_of all (slice_index_or pieces place []) ∷ []
piece_at all [] place low = absurd (omega (arith, low))
piece_at all (piece ∷ pieces) zero low = refl
piece_at all (piece ∷ pieces) (suc place) low =
    let later : (suc place == 0) ≡ false = ne_eqb (suc place) 0 (λ same. absurd (omega (arith, same)))
    in let down : suc place - 1 ≡ place = omega arith
    in rw (later, down) (piece_at all pieces place (omega (arith, low)))

chosen_shown : (all : List Rec) (pieces : List (List Rec)) (places : List ℕ) → AreBelow (length pieces) places → map (segment_of all) (pieces_at pieces places) ≡ chosen places (map (segment_of all) pieces)
chosen_shown all pieces [] low = refl
chosen_shown all pieces (place ∷ places) low = λ i. sym (piece_at all pieces place low.0) i ++ chosen_shown all pieces places low.1 i

target_shown : (d : Dataset) (plan : Plan) → IsKept d (current plan)
    → shown_part (order_of d.cvd.versions) (target_part d plan) ≡ events.target_part d.next_part (map (shown_part (order_of d.cvd.versions)) d.parts) (plan_numbers d plan)
target_shown d plan is = λ i. record {
  id = d.next_part;
  versions = (sym now i).versions;
  holds = (sym now i).versions;
  records = (records ∙ ap (λ (t : TargetNumbers). t.kept_records + length (joined plan.copied)) (sym now)) i;
  segments = (segments ∙ ap (λ (t : TargetNumbers). chosen t.kept (segments_at t.source (map (shown_part all) d.parts)) ++ map (segment_of all) plan.copied) (sym now)) i;
}
  where
    all : List Rec
    all = order_of d.cvd.versions

    now : events.current (plan_numbers d plan) ≡ shown_target d (current plan)
    now = current_shown d plan

    records : length (held (target_part d plan)) ≡ (current plan).kept_records + length (joined plan.copied)
    records = joined_long (kept_pieces d (current plan)) plan.copied ∙ ap (λ n. n + length (joined plan.copied)) (sym is.count)

    segments : map (segment_of all) (target_part d plan).pieces
        ≡ chosen (current plan).kept (segments_at (current plan).source (map (shown_part all) d.parts)) ++ map (segment_of all) plan.copied
    segments = map-append (segment_of all) (kept_pieces d (current plan)) plan.copied
        ∙ ap (λ ss. ss ++ map (segment_of all) plan.copied)
        (chosen_shown all (pieces_of d.parts (current plan).source) (current plan).kept is.there
        ∙ ap (chosen (current plan).kept) (segments_shown all (current plan).source d.parts))

next_shown : (d : Dataset) (plan : Plan) → shown_plan d (plans.next_target plan) ≡ events.next_target (plan_numbers d plan)
next_shown d plan =
    by (nat_lt (plan.at + 1) (length plan.targets))
    ∙ ap (λ n. if nat_lt (plan.at + 1) n then Some (next (plan_numbers d plan)) else None) (sym (length-map plan.targets (shown_target d)))
  where
    next : PlanNumbers Records → PlanNumbers Records
    next numbers = record { p = numbers.p; q = numbers.q; targets = numbers.targets; at = numbers.at + 1; copied = 0; segments = [] }

    by : (b : Bool) → shown_plan d (if b then Some (record plan { at = plan.at + 1; copied = [] }) else None) ≡ (if b then Some (next (plan_numbers d plan)) else None)
    by true = refl
    by false = refl

flip_shown : (d : Dataset) (found : Option Plan) → PlanIsUnderWay d found → shown_set (plans.flipped_by d found) ≡ events.flipped_by (shown_plan d found) (shown_set d)
flip_shown d None way = refl
flip_shown d (Some plan) way = λ i. record {
  number = d.cvd.number;
  name = d.cvd.name;
  schema = d.cvd.schema;
  versions = shown_versions (order_of d.cvd.versions) [] d.cvd.versions;
  parts = parts i;
  next_part = d.next_part + 1;
  threshold = d.threshold;
  plan = next_shown d plan i;
  records = length (order_of d.cvd.versions);
}
  where
    all : List Rec
    all = order_of d.cvd.versions

    parts : map (shown_part all) (left_parts (current plan).versions d.parts ++ target_part d plan ∷ [])
        ≡ events.left_parts (events.current (plan_numbers d plan)).versions (map (shown_part all) d.parts)
        ++ events.target_part d.next_part (map (shown_part all) d.parts) (plan_numbers d plan) ∷ []
    parts = map-append (shown_part all) (left_parts (current plan).versions d.parts) (target_part d plan ∷ [])
        ∙ ap (λ ps. ps ++ shown_part all (target_part d plan) ∷ [])
        (left_shown all (current plan).versions d.parts
        ∙ ap (λ (t : TargetNumbers). events.left_parts t.versions (map (shown_part all) d.parts)) (sym (current_shown d plan)))
        ∙ ap (λ part. events.left_parts (events.current (plan_numbers d plan)).versions (map (shown_part all) d.parts) ++ part ∷ [])
        (target_shown d plan (current_kept d plan way.kept))

pub flipped_shown : (d : Dataset) → PlanIsUnderWay d d.plan → shown_set (plans.flipped d) ≡ events.flipped (shown_set d)
flipped_shown d way = flip_shown d d.plan way
