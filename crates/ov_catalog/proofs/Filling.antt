-- Filling the holes anew and applying an event may be done in either order.
use Rattle.std.proofs.Common.{◌≡◌, ℕ, ◌+◌, ◌-◌, Bool, true, false, ◌==◌, List, [], ◌∷◌, ◌++◌, length, map, filter, refl, sym, ◌∙◌, ap}
use Rattle.std.specs.Prelude.{not, nat_lt, if◌then◌else◌, Option, Some, None}
use Rattle.std.proofs.lemmas.List.{map-append, length-map}
use Rattle.ov_place.specs.declared.place_facts.Place.{Place}
use Rattle.ov_place.specs.declared.place_facts.Place.TheVariants.{Own, Join}
use Rattle.ov_model.specs.Moves.{next_with}
use Rattle.ov_event.specs.declared.event.PlanTarget.{PlanTarget}
use Rattle.ov_graph.specs.Splits.{parts_of}
use Rattle.ov_graph.specs.Versions as graph
use Rattle.ov_catalog.specs.Numbers.{VersionNumbers, PartNumbers, PlanNumbers, SetNumbers, Numbers, each_version, each_part, each_plan, each_set, each}
use Rattle.ov_catalog.specs.Events.{Event, Init, Commit, Plan, Copy, Flip, Drop, Base, Whole, Wide, each_event, own_part, with_joined, join_at, parts_with, version_of, new_set, with_version, with_columns, numbered, change, graph_of, targets_of, planned, copied_for, copied_more, is_empty, leaving, left_parts, segments_at, one_at, chosen, current, target_part, next_target, flipped_by, flipped, applied, replayed}

joined_each : {S T : Type 0} (g : S → T) (vid added : ℕ) (segments : List S) (part : PartNumbers S)
    → each_part g (with_joined vid added segments part) ≡ with_joined vid added (map g segments) (each_part g part)
joined_each g vid added segments part = λ i. record {
  id = part.id;
  versions = part.versions ++ vid ∷ [];
  holds = part.holds ++ vid ∷ [];
  records = part.records + added;
  segments = map-append g part.segments segments i;
}

join_each : {S T : Type 0} (g : S → T) (id vid added : ℕ) (segments : List S) (parts : List (PartNumbers S))
    → map (each_part g) (join_at id vid added segments parts) ≡ join_at id vid added (map g segments) (map (each_part g) parts)
join_each g id vid added segments [] = refl
join_each {S} {T} g id vid added segments (part ∷ parts) = by (part.id == id) (join_each g id vid added segments parts)
  where
    by : (b : Bool) → map (each_part g) (join_at id vid added segments parts) ≡ join_at id vid added (map g segments) (map (each_part g) parts)
        → map (each_part g) (if b then with_joined vid added segments part ∷ parts else part ∷ join_at id vid added segments parts)
        ≡ (if b then with_joined vid added (map g segments) (each_part g part) ∷ map (each_part g) parts else each_part g part ∷ join_at id vid added (map g segments) (map (each_part g) parts))
    by true rest = ap (λ p. p ∷ map (each_part g) parts) (joined_each g vid added segments part)
    by false rest = ap (λ ps. each_part g part ∷ ps) rest

parts_each : {S T : Type 0} (g : S → T) (place : Place) (next vid added : ℕ) (segments : List S) (parts : List (PartNumbers S))
    → map (each_part g) (parts_with place next vid added segments parts) ≡ parts_with place next vid added (map g segments) (map (each_part g) parts)
parts_each g Own next vid added segments parts = map-append (each_part g) parts (own_part next vid added segments ∷ [])
parts_each g (Join id) next vid added segments parts = join_each g id vid added segments parts

version_each : {L M S T : Type 0} (f : L → M) (g : S → T) (v : VersionNumbers L) (place : Place) (added : ℕ) (segments : List S) (d : SetNumbers L S)
    → each_set f g (with_version v place added segments d) ≡ with_version (each_version f v) place added (map g segments) (each_set f g d)
version_each f g v place added segments d = λ i. record {
  number = d.number;
  name = d.name;
  schema = d.schema;
  versions = map-append (each_version f) d.versions (v ∷ []) i;
  parts = parts i;
  next_part = next_with place d.next_part;
  threshold = d.threshold;
  plan = each_plan g d.plan;
  records = d.records + v.fresh;
}
  where
    parts : map (each_part g) (parts_with place d.next_part (length d.versions + 1) added segments d.parts)
        ≡ parts_with place d.next_part (length (map (each_version f) d.versions) + 1) added (map g segments) (map (each_part g) d.parts)
    parts = parts_each g place d.next_part (length d.versions + 1) added segments d.parts
        ∙ ap (λ n. parts_with place d.next_part (n + 1) added (map g segments) (map (each_part g) d.parts)) (sym (length-map d.versions (each_version f)))

change_each : {L M S T : Type 0} (f : L → M) (g : S → T) (number : ℕ) (h : SetNumbers L S → SetNumbers L S) (k : SetNumbers M T → SetNumbers M T)
    → ((d : SetNumbers L S) → each_set f g (h d) ≡ k (each_set f g d)) → (sets : List (SetNumbers L S))
    → map (each_set f g) (change number h sets) ≡ change number k (map (each_set f g) sets)
change_each f g number h k same [] = refl
change_each {L} {M} {S} {T} f g number h k same (d ∷ sets) = by (numbered number d) (change_each f g number h k same sets)
  where
    by : (b : Bool) → map (each_set f g) (change number h sets) ≡ change number k (map (each_set f g) sets)
        → map (each_set f g) (if b then h d ∷ sets else d ∷ change number h sets)
        ≡ (if b then k (each_set f g d) ∷ map (each_set f g) sets else each_set f g d ∷ change number k (map (each_set f g) sets))
    by true rest = ap (λ x. x ∷ map (each_set f g) sets) (same d)
    by false rest = ap (λ xs. each_set f g d ∷ xs) rest

drop_each : {L M S T : Type 0} (f : L → M) (g : S → T) (number : ℕ) (sets : List (SetNumbers L S))
    → map (each_set f g) (filter (λ d. not (numbered number d)) sets) ≡ filter (λ d. not (numbered number d)) (map (each_set f g) sets)
drop_each f g number [] = refl
drop_each {L} {M} {S} {T} f g number (d ∷ sets) = by (not (numbered number d)) (drop_each f g number sets)
  where
    by : (b : Bool) → map (each_set f g) (filter (λ d. not (numbered number d)) sets) ≡ filter (λ d. not (numbered number d)) (map (each_set f g) sets)
        → map (each_set f g) (if b then d ∷ filter (λ d. not (numbered number d)) sets else filter (λ d. not (numbered number d)) sets)
        ≡ (if b then each_set f g d ∷ filter (λ d. not (numbered number d)) (map (each_set f g) sets) else filter (λ d. not (numbered number d)) (map (each_set f g) sets))
    by true rest = ap (λ xs. each_set f g d ∷ xs) rest
    by false rest = rest

-- ---- plans

graph_each : {L M : Type 0} (f : L → M) (vs : List (VersionNumbers L)) → graph_of vs ≡ graph_of (map (each_version f) vs)
graph_each f [] = refl
graph_each f (v ∷ vs) = ap (λ us. record { records = v.rows; parents = v.parents } ∷ us) (graph_each f vs)

planned_each : {L M S T : Type 0} (f : L → M) (g : S → T) (p q : ℕ) (targets : List PlanTarget) (d : SetNumbers L S)
    → each_set f g (planned p q targets d) ≡ planned p q targets (each_set f g d)
planned_each f g p q targets d = λ i. record {
  number = d.number;
  name = d.name;
  schema = d.schema;
  versions = map (each_version f) d.versions;
  parts = map (each_part g) d.parts;
  next_part = d.next_part;
  threshold = Some (p, q);
  plan = Some (record { p = p; q = q; targets = targets_of (parts_of (graph.reduced (graph_each f d.versions i)) p q) targets; at = 0; copied = 0; segments = [] });
  records = d.records;
}

copied_each : {S T : Type 0} (g : S → T) (count : ℕ) (segments : List S) (plan : Option (PlanNumbers S))
    → each_plan g (copied_for count segments plan) ≡ copied_for count (map g segments) (each_plan g plan)
copied_each g count segments None = refl
copied_each g count segments (Some plan) = λ i. Some (record {
  p = plan.p;
  q = plan.q;
  targets = plan.targets;
  at = plan.at;
  copied = plan.copied + count;
  segments = map-append g plan.segments segments i;
})

more_each : {L M S T : Type 0} (f : L → M) (g : S → T) (count : ℕ) (segments : List S) (d : SetNumbers L S)
    → each_set f g (copied_more count segments d) ≡ copied_more count (map g segments) (each_set f g d)
more_each f g count segments d = λ i. record {
  number = d.number;
  name = d.name;
  schema = d.schema;
  versions = map (each_version f) d.versions;
  parts = map (each_part g) d.parts;
  next_part = d.next_part;
  threshold = d.threshold;
  plan = copied_each g count segments d.plan i;
  records = d.records;
}

at_each : {S T : Type 0} (g : S → T) (segments : List S) (place : ℕ) → map g (one_at segments place) ≡ one_at (map g segments) place
at_each g [] place = refl
at_each {S} {T} g (s ∷ segments) place = by (place == 0) (at_each g segments (place - 1))
  where
    by : (b : Bool) → map g (one_at segments (place - 1)) ≡ one_at (map g segments) (place - 1)
        → map g (if b then s ∷ [] else one_at segments (place - 1)) ≡ (if b then g s ∷ [] else one_at (map g segments) (place - 1))
    by true rest = refl
    by false rest = rest

chosen_each : {S T : Type 0} (g : S → T) (places : List ℕ) (segments : List S) → map g (chosen places segments) ≡ chosen places (map g segments)
chosen_each g [] segments = refl
chosen_each g (place ∷ places) segments =
    map-append g (one_at segments place) (chosen places segments)
    ∙ (λ i. at_each g segments place i ++ chosen_each g places segments i)

pub segments_each : {S T : Type 0} (g : S → T) (id : ℕ) (parts : List (PartNumbers S)) → map g (segments_at id parts) ≡ segments_at id (map (each_part g) parts)
segments_each g id [] = refl
segments_each {S} {T} g id (part ∷ parts) = by (part.id == id) (segments_each g id parts)
  where
    by : (b : Bool) → map g (segments_at id parts) ≡ segments_at id (map (each_part g) parts)
        → map g (if b then part.segments else segments_at id parts) ≡ (if b then map g part.segments else segments_at id (map (each_part g) parts))
    by true rest = refl
    by false rest = rest

left_each : {S T : Type 0} (g : S → T) (versions : List ℕ) (parts : List (PartNumbers S))
    → map (each_part g) (left_parts versions parts) ≡ left_parts versions (map (each_part g) parts)
left_each g versions [] = refl
left_each {S} {T} g versions (part ∷ parts) = by (not (is_empty (leaving versions part))) (left_each g versions parts)
  where
    by : (b : Bool) → map (each_part g) (left_parts versions parts) ≡ left_parts versions (map (each_part g) parts)
        → map (each_part g) (if b then leaving versions part ∷ left_parts versions parts else left_parts versions parts)
        ≡ (if b then leaving versions (each_part g part) ∷ left_parts versions (map (each_part g) parts) else left_parts versions (map (each_part g) parts))
    by true rest = ap (λ ps. each_part g (leaving versions part) ∷ ps) rest
    by false rest = rest

next_each : {S T : Type 0} (g : S → T) (plan : PlanNumbers S)
    → each_plan g (next_target plan)
    ≡ next_target (record { p = plan.p; q = plan.q; targets = plan.targets; at = plan.at; copied = plan.copied; segments = map g plan.segments })
next_each {S} {T} g plan = by (nat_lt (plan.at + 1) (length plan.targets))
  where
    by : (b : Bool)
        → each_plan g (if b then Some (record { p = plan.p; q = plan.q; targets = plan.targets; at = plan.at + 1; copied = 0; segments = [] }) else None)
        ≡ (if b then Some (record { p = plan.p; q = plan.q; targets = plan.targets; at = plan.at + 1; copied = 0; segments = [] }) else None)
    by true = refl
    by false = refl

flipped_each : {L M S T : Type 0} (f : L → M) (g : S → T) (plan : Option (PlanNumbers S)) (d : SetNumbers L S)
    → each_set f g (flipped_by plan d) ≡ flipped_by (each_plan g plan) (each_set f g d)
flipped_each f g None d = refl
flipped_each {L} {M} {S} {T} f g (Some plan) d = λ i. record {
  number = d.number;
  name = d.name;
  schema = d.schema;
  versions = map (each_version f) d.versions;
  parts = parts i;
  next_part = d.next_part + 1;
  threshold = d.threshold;
  plan = next_each g plan i;
  records = d.records;
}
  where
    now : PlanNumbers T
    now = record { p = plan.p; q = plan.q; targets = plan.targets; at = plan.at; copied = plan.copied; segments = map g plan.segments }

    target : each_part g (target_part d.next_part d.parts plan) ≡ target_part d.next_part (map (each_part g) d.parts) now
    target = λ i. record {
      id = d.next_part;
      versions = (current plan).versions;
      holds = (current plan).versions;
      records = (current plan).kept_records + plan.copied;
      segments = (map-append g (chosen (current plan).kept (segments_at (current plan).source d.parts)) plan.segments
          ∙ ap (λ es. es ++ map g plan.segments)
          (chosen_each g (current plan).kept (segments_at (current plan).source d.parts)
          ∙ ap (chosen (current plan).kept) (segments_each g (current plan).source d.parts))) i;
    }

    parts : map (each_part g) (left_parts (current plan).versions d.parts ++ target_part d.next_part d.parts plan ∷ [])
        ≡ left_parts (current plan).versions (map (each_part g) d.parts) ++ target_part d.next_part (map (each_part g) d.parts) now ∷ []
    parts = map-append (each_part g) (left_parts (current plan).versions d.parts) (target_part d.next_part d.parts plan ∷ [])
        ∙ (λ i. left_each g (current plan).versions d.parts i ++ target i ∷ [])

-- ---- events

pub applied_each : {L M S T : Type 0} (f : L → M) (g : S → T) (e : Event L S) (n : Numbers L S) → each f g (applied e n) ≡ applied (each_event f g e) (each f g n)
applied_each f g (Init name schema rows list segments) n = λ i. record {
  next = n.next + 1;
  sets = map-append (each_set f g) n.sets (new_set n.next name schema rows list segments ∷ []) i;
}
applied_each f g (Commit cvd vid message parents rows fresh place added list segments) n = λ i. record {
  next = n.next;
  sets = change_each f g cvd (with_version (version_of parents message rows fresh list) place added segments)
      (with_version (version_of parents message rows fresh (f list)) place added (map g segments))
      (version_each f g (version_of parents message rows fresh list) place added segments) n.sets i;
}
applied_each f g (Plan cvd p q targets) n = λ i. record {
  next = n.next;
  sets = change_each f g cvd (planned p q targets) (planned p q targets) (planned_each f g p q targets) n.sets i;
}
applied_each f g (Copy cvd count segments) n = λ i. record {
  next = n.next;
  sets = change_each f g cvd (copied_more count segments) (copied_more count (map g segments)) (more_each f g count segments) n.sets i;
}
applied_each f g (Flip cvd) n = λ i. record {
  next = n.next;
  sets = change_each f g cvd flipped flipped (λ d. flipped_each f g d.plan d) n.sets i;
}
applied_each f g (Drop cvd) n = λ i. record { next = n.next; sets = drop_each f g cvd n.sets i }
applied_each f g (Base next) n = refl
applied_each f g (Whole d) n = λ i. record { next = n.next; sets = map-append (each_set f g) n.sets (d ∷ []) i }
applied_each f g (Wide cvd vid message columns parents rows fresh place added list segments) n = λ i. record {
  next = n.next;
  sets = change_each f g cvd (λ d. with_version (version_of parents message rows fresh list) place added segments (with_columns columns d))
      (λ d. with_version (version_of parents message rows fresh (f list)) place added (map g segments) (with_columns columns d))
      (λ d. version_each f g (version_of parents message rows fresh list) place added segments (with_columns columns d)) n.sets i;
}

pub replayed_more : {L S : Type 0} (es : List (Event L S)) (e : Event L S) (n : Numbers L S) → replayed (es ++ e ∷ []) n ≡ applied e (replayed es n)
replayed_more [] e n = refl
replayed_more (x ∷ es) e n = replayed_more es e (applied x n)

-- one filling after another is one filling
each_versions-twice : {L M N : Type 0} (f : L → M) (h : M → N) (vs : List (VersionNumbers L)) → map (each_version h) (map (each_version f) vs) ≡ map (each_version (λ x. h (f x))) vs
each_versions-twice f h [] = refl
each_versions-twice f h (v ∷ vs) = ap (λ ws. each_version (λ x. h (f x)) v ∷ ws) (each_versions-twice f h vs)
