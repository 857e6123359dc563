-- Whether an event applies doesn't depend on what fills the holes.
use Rattle.std.proofs.Common.{◌≡◌, ℕ, ◌+◌, ◌==◌, ◌&&◌, ◌||◌, ◌^◌, List, [], ◌∷◌, length, map, refl, sym, ◌∙◌, ap, inl, inr}
use Rattle.std.specs.Prelude.{Option, Some, None, find, slice_index_or, ◌-◌, if◌then◌else◌, is_none, nat_le, nat_lt, not}
use Rattle.std.specs.List.{list_any, list_all, sum_by}
use Rattle.std.specs.Option.{option_or}
use Rattle.std.proofs.lemmas.Bool.{cases_Bool}
use Rattle.std.proofs.lemmas.List.{length-map}
use Rattle.std.proofs.lemmas.List.Sums.{sum_by-cons}
use Rattle.ov_event.specs.declared.event.Event as raw
use Rattle.ov_event.specs.declared.event.Event.TheVariants as says
use Rattle.ov_event.specs.declared.event.PlanTarget.{PlanTarget}
use Rattle.ov_event.specs.declared.event.RawSchema.{RawSchema}
use Rattle.ov_graph.specs.Splits.{parts_of}
use Rattle.ov_graph.specs.Versions as graph
use Rattle.ov_graph.specs.Versions.{heaviest}
use Rattle.ov_host.specs.declared.area.Extent.{Extent}
use Rattle.ov_place.specs.Placement.{placed}
use Rattle.ov_place.specs.declared.place_facts.Place.{Place}
use Rattle.ov_place.specs.declared.place_facts.Place.TheVariants.{Own, Join}
use Rattle.ov_value.specs.Naming.{is_name}
use Rattle.ov_value.specs.declared.column.Column.{Column}
use Rattle.ov_catalog.specs.declared.field.Field.{Field}
use Rattle.ov_catalog.specs.declared.field.Field.TheVariants as off
use Rattle.ov_catalog.specs.Numbers.{VersionNumbers, PartNumbers, TargetNumbers, PlanNumbers, SetNumbers, Numbers, each_version, each_part, each_plan, each_set, each}
use Rattle.ov_catalog.specs.Events.{numbered, graph_of, parts_at, targets_of}
use Rattle.ov_catalog.specs.Planning.{is_threshold, ascend_from, are_below, empties, is_kept, is_source, are_targets, plan_off, of_running, copy_off, flip_off}
use Rattle.ov_catalog.specs.Raw.{place_in}
use Rattle.ov_catalog.specs.Applying.{off_unless, is_named, is_schema, is_same, is_list, is_segment, init_off, rows_at, are_distinct, is_parent, are_parents, part_serving, part_numbered, id_in, records_in, is_unmoved, copied_in, facts_of, is_place, is_count, columns_off, commit_off, format_off, of_live, first_off, wide_off}

module _ {L M S T : Type 0} (f : L → M) (g : S → T) where
  named_each : (name : List ℕ) (sets : List (SetNumbers L S)) → list_any (is_named name) (map (each_set f g) sets) ≡ list_any (is_named name) sets
  named_each name [] = refl
  named_each name (d ∷ sets) = ap (λ b. is_named name d || b) (named_each name sets)

  rows_each : (vs : List (VersionNumbers L)) → map (λ v. v.rows) (map (each_version f) vs) ≡ map (λ v. v.rows) vs
  rows_each [] = refl
  rows_each (v ∷ vs) = ap (λ ns. v.rows ∷ ns) (rows_each vs)

  at_each : (vs : List (VersionNumbers L)) (vid : ℕ) → rows_at (map (each_version f) vs) vid ≡ rows_at vs vid
  at_each vs vid = ap (λ ns. slice_index_or ns (vid - 1) 0) (rows_each vs)

  parent_each : (vs : List (VersionNumbers L)) (rows : ℕ) (edge : ℕ × ℕ) → is_parent (map (each_version f) vs) rows edge ≡ is_parent vs rows edge
  parent_each vs rows edge = λ i. (nat_le 1 edge.0 && nat_le edge.0 (length-map vs (each_version f) i)) && (nat_le edge.1 rows && nat_le edge.1 (at_each vs edge.0 i))

  all_each : (vs : List (VersionNumbers L)) (rows : ℕ) (edges : List (ℕ × ℕ)) → list_all (is_parent (map (each_version f) vs) rows) edges ≡ list_all (is_parent vs rows) edges
  all_each vs rows [] = refl
  all_each vs rows (edge ∷ edges) = λ i. parent_each vs rows edge i && all_each vs rows edges i

  parents_each : (vs : List (VersionNumbers L)) (rows : ℕ) (edges : List (ℕ × ℕ)) → are_parents (map (each_version f) vs) rows edges ≡ are_parents vs rows edges
  parents_each vs rows edges = λ i. nat_le 1 (length edges) && (all_each vs rows edges i && are_distinct (map (λ edge. edge.0) edges))

  serving_each : (vid : ℕ) (parts : List (PartNumbers S)) → id_in (part_serving (map (each_part g) parts) vid) ≡ id_in (part_serving parts vid)
  serving_each vid [] = refl
  serving_each vid (part ∷ parts) =
      elim (cases_Bool (list_any (λ v. v == vid) part.versions)) [
        | inl e ↦ rw e refl
        | inr e ↦ rw e (serving_each vid parts)
      ]

  records_each : (id : ℕ) (parts : List (PartNumbers S)) → records_in (part_numbered (map (each_part g) parts) id) ≡ records_in (part_numbered parts id)
  records_each id [] = refl
  records_each id (part ∷ parts) =
      elim (cases_Bool (part.id == id)) [
        | inl e ↦ rw e refl
        | inr e ↦ rw e (records_each id parts)
      ]

  sum_each : (parts : List (PartNumbers S)) → sum_by (λ (part : PartNumbers T). part.records) (map (each_part g) parts) ≡ sum_by (λ (part : PartNumbers S). part.records) parts
  sum_each [] = refl
  sum_each (part ∷ parts) =
      sum_by-cons (λ (p : PartNumbers T). p.records) (each_part g part) (map (each_part g) parts)
      ∙ ap (λ (n : ℕ). part.records + n) (sum_each parts)
      ∙ sym (sum_by-cons (λ (p : PartNumbers S). p.records) part parts)

  unmoved_each : (plan : Option (PlanNumbers S)) (vid : ℕ) → is_unmoved (each_plan g plan) vid ≡ is_unmoved plan vid
  unmoved_each None vid = refl
  unmoved_each (Some plan) vid = refl

  copied_each : (plan : Option (PlanNumbers S)) → copied_in (each_plan g plan) ≡ copied_in plan
  copied_each None = refl
  copied_each (Some plan) = refl

  facts_each : (d : SetNumbers L S) (edge : ℕ × ℕ) → facts_of (each_set f g d) edge ≡ facts_of d edge
  facts_each d edge = λ i. record {
    threshold = d.threshold;
    unmoved = unmoved_each d.plan edge.0 i;
    weight = edge.1;
    records = d.records;
    stored = sum_each d.parts i + copied_each d.plan i;
    parent = serving_each edge.0 d.parts i;
  }

  count_each : (d : SetNumbers L S) (rows fresh added : ℕ) (place : Place) → is_count (each_set f g d) rows fresh added place ≡ is_count d rows fresh added place
  count_each d rows fresh added Own = refl
  count_each d rows fresh added (Join id) = λ i. (nat_le fresh added && nat_le added rows) && nat_le (records_each id d.parts i + added) (d.records + fresh)

  commit_each : (vid : ℕ) (message : List ℕ) (parents : List (ℕ × ℕ)) (rows fresh : ℕ) (place : Place) (added : ℕ) (list segment : Extent) (d : SetNumbers L S)
      → commit_off vid message parents rows fresh place added list segment (each_set f g d) ≡ commit_off vid message parents rows fresh place added list segment d
  commit_each vid message parents rows fresh place added list segment d = λ i.
      option_or (off_unless (vid == length-map d.versions (each_version f) i + 1 && nat_le vid 65535) off.Vid)
      (option_or (off_unless (nat_le (length message) 1024) off.Message)
      (option_or (off_unless (parents_each d.versions rows parents i) off.Parent)
      (option_or (off_unless (nat_le rows 1000000 && (nat_le fresh rows && (nat_le rows (d.records + fresh) && nat_le (d.records + fresh) (2 ^ 31)))) off.Rows)
      (option_or (off_unless (is_place place (placed (facts_each d (heaviest parents) i))) off.Placing)
      (option_or (off_unless (count_each d rows fresh added place i) off.Count)
      (off_unless (is_list rows list && is_segment added segment) off.Place))))))

  wide_each : (vid : ℕ) (message : List ℕ) (columns : List Column) (parents : List (ℕ × ℕ)) (rows fresh : ℕ) (place : Place) (added : ℕ) (list segment : Extent) (d : SetNumbers L S)
      → wide_off vid message columns parents rows fresh place added list segment (each_set f g d) ≡ wide_off vid message columns parents rows fresh place added list segment d
  wide_each vid message columns parents rows fresh place added list segment d = λ i.
      option_or (off_unless (vid == length-map d.versions (each_version f) i + 1 && nat_le vid 65535) off.Vid)
      (option_or (off_unless (nat_le (length message) 1024) off.Message)
      (option_or (columns_off columns d)
      (option_or (off_unless (parents_each d.versions rows parents i) off.Parent)
      (option_or (off_unless (nat_le rows 1000000 && (nat_le fresh rows && (nat_le rows (d.records + fresh) && nat_le (d.records + fresh) (2 ^ 31)))) off.Rows)
      (option_or (off_unless (is_place place (placed (facts_each d (heaviest parents) i))) off.Placing)
      (option_or (off_unless (count_each d rows fresh added place i) off.Count)
      (off_unless (is_list rows list && is_segment added segment) off.Place)))))))

  init_each : (name : List ℕ) (schema : RawSchema) (rows : ℕ) (list segment : Extent) (n : Numbers L S) → init_off name schema rows list segment (each f g n) ≡ init_off name schema rows list segment n
  init_each name schema rows list segment n = λ i.
      option_or (off_unless (nat_lt n.next 4294967295) off.Number)
      (option_or (off_unless (is_name name && (not (named_each name n.sets i) && nat_lt (length-map n.sets (each_set f g) i) 1024)) off.Name)
      (option_or (off_unless (is_schema schema) off.Schema)
      (option_or (off_unless (nat_le rows 1000000) off.Rows)
      (off_unless (is_list rows list && is_segment rows segment) off.Place))))

  -- ---- plans

  graph_each : (vs : List (VersionNumbers L)) → graph_of (map (each_version f) vs) ≡ graph_of vs
  graph_each [] = refl
  graph_each (v ∷ vs) = ap (λ us. record { records = v.rows; parents = v.parents } ∷ us) (graph_each vs)

  kept_each : (t : TargetNumbers) (later : List (List ℕ)) (id : ℕ) (parts : List (PartNumbers S)) → is_kept t later (part_numbered (map (each_part g) parts) id) ≡ is_kept t later (part_numbered parts id)
  kept_each t later id [] = refl
  kept_each t later id (part ∷ parts) =
      elim (cases_Bool (part.id == id)) [
        | inl e ↦
            rw e (ap (λ n. empties t.versions later part && ((ascend_from 0 t.kept && are_below n t.kept) && (is_same (length t.kept == 0) (t.kept_records == 0) && nat_le t.kept_records t.size)))
            (length-map part.segments g))
        | inr e ↦ rw e (kept_each t later id parts)
      ]

  source_each : (parts : List (PartNumbers S)) (t : TargetNumbers) (later : List (List ℕ)) → is_source (map (each_part g) parts) t later ≡ is_source parts t later
  source_each parts t later = ap (λ kept. if t.source == 0 then length t.kept == 0 && t.kept_records == 0 else kept) (kept_each t later t.source parts)

  fit_each : (vs : List (VersionNumbers L)) (size : ℕ) (vids : List ℕ) → list_all (λ vid. nat_le (rows_at (map (each_version f) vs) vid) size) vids ≡ list_all (λ vid. nat_le (rows_at vs vid) size) vids
  fit_each vs size [] = refl
  fit_each vs size (vid ∷ vids) = λ i. nat_le (at_each vs vid i) size && fit_each vs size vids i

  targets_each : (d : SetNumbers L S) (ts : List TargetNumbers) → are_targets (each_set f g d) ts ≡ are_targets d ts
  targets_each d [] = refl
  targets_each d (t ∷ ts) = λ i.
      ((fit_each d.versions t.size t.versions i && nat_le t.size d.records) && source_each d.parts t (map (λ u. u.versions) ts) i) && targets_each d ts i

  idle_each : (plan : Option (PlanNumbers S)) → is_none (each_plan g plan) ≡ is_none plan
  idle_each None = refl
  idle_each (Some plan) = refl

  plan_each : (p q : ℕ) (targets : List PlanTarget) (d : SetNumbers L S) → plan_off p q targets (each_set f g d) ≡ plan_off p q targets d
  plan_each p q targets d =
      let same : parts_at p q (each_set f g d) ≡ parts_at p q d = ap (λ versions. parts_of (graph.reduced versions) p q) (graph_each d.versions)
      in let are : are_targets (each_set f g d) (targets_of (parts_at p q (each_set f g d)) targets) ≡ are_targets d (targets_of (parts_at p q d) targets) =
      ap (λ parts. are_targets (each_set f g d) (targets_of parts targets)) same ∙ targets_each d (targets_of (parts_at p q d) targets)
      in λ i.
      option_or (off_unless (idle_each d.plan i && (is_threshold p q && nat_le d.next_part 4294000000)) off.Plan)
      (off_unless (length targets == length (same i) && are i) off.Count)

  copy_each : (count : ℕ) (segment : Extent) (plan : Option (PlanNumbers S)) → of_running (copy_off count segment) (each_plan g plan) ≡ of_running (copy_off count segment) plan
  copy_each count segment None = refl
  copy_each count segment (Some plan) = refl

  flip_each : (plan : Option (PlanNumbers S)) → of_running flip_off (each_plan g plan) ≡ of_running flip_off plan
  flip_each None = refl
  flip_each (Some plan) = refl

  -- ---- events

  live_each : (test : SetNumbers M T → Option Field) (same : SetNumbers L S → Option Field) → ((d : SetNumbers L S) → test (each_set f g d) ≡ same d)
      → (cvd : ℕ) (sets : List (SetNumbers L S)) → of_live test (find (numbered cvd) (map (each_set f g) sets)) ≡ of_live same (find (numbered cvd) sets)
  live_each test same is cvd [] = refl
  live_each test same is cvd (d ∷ sets) =
      elim (cases_Bool (d.number == cvd)) [
        | inl e ↦ rw e (is d)
        | inr e ↦ rw e (live_each test same is cvd sets)
      ]

  pub first_off_each : (format : ℕ) (e : raw.Event) (n : Numbers L S) → first_off format e (each f g n) ≡ first_off format e n
  first_off_each format (says.Init name schema rows list segment) n = init_each name schema rows list segment n
  first_off_each format (says.Commit cvd vid message parents rows fresh place added list segment) n =
      live_each (commit_off vid message parents rows fresh (place_in place) added list segment) (commit_off vid message parents rows fresh (place_in place) added list segment)
      (commit_each vid message parents rows fresh (place_in place) added list segment) cvd n.sets
  first_off_each format (says.Plan cvd p q targets) n = live_each (plan_off p q targets) (plan_off p q targets) (plan_each p q targets) cvd n.sets
  first_off_each format (says.Copy cvd count segment) n =
      live_each (λ d. of_running (copy_off count segment) d.plan) (λ d. of_running (copy_off count segment) d.plan) (λ d. copy_each count segment d.plan) cvd n.sets
  first_off_each format (says.Flip cvd) n = live_each (λ d. of_running flip_off d.plan) (λ d. of_running flip_off d.plan) (λ d. flip_each d.plan) cvd n.sets
  first_off_each format (says.Drop cvd) n = live_each (λ d. None) (λ d. None) (λ d. refl) cvd n.sets
  first_off_each format (says.Base next) n = refl
  first_off_each format (says.Whole said) n = refl
  first_off_each format (says.Wide cvd vid message columns parents rows fresh place added list segment) n =
      ap (option_or (format_off format))
      (live_each (wide_off vid message columns parents rows fresh (place_in place) added list segment) (wide_off vid message columns parents rows fresh (place_in place) added list segment)
      (wide_each vid message columns parents rows fresh (place_in place) added list segment) cvd n.sets)
