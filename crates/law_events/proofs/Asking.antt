-- An event that applies is sound.
use Rattle.std.proofs.Common.{◌≡◌, ℕ, ◌+◌, ◌^◌, ◌==◌, ◌&&◌, Bool, true, false, List, length, not, refl}
use Rattle.std.specs.Prelude.{Option, Some, None, min, nat_le, nat_lt}
use Rattle.std.specs.List.{list_any}
use Rattle.std.specs.Option.{option_or}
use Rattle.ov_event.specs.declared.event.Event as raw
use Rattle.ov_event.specs.declared.event.Event.TheVariants as says
use Rattle.ov_event.specs.declared.event.RawSchema.{RawSchema}
use Rattle.ov_graph.specs.Versions.{heaviest}
use Rattle.ov_host.specs.declared.area.Extent.{Extent}
use Rattle.ov_place.specs.Placement.{placed}
use Rattle.ov_place.specs.declared.place_facts.Place.{Place}
use Rattle.ov_value.specs.Naming.{is_name}
use Rattle.ov_catalog.specs.declared.field.Field.{Field}
use Rattle.ov_catalog.specs.declared.field.Field.TheVariants as off
use Rattle.ov_catalog.specs.Applying.{off_unless, is_named, is_schema, is_extent, is_list, is_segment, init_off, are_parents, facts_of, is_place, is_count, commit_off, of_live, set_numbered, first_off, wide_off}
use Rattle.ov_catalog.specs.Numbers.{PlanNumbers, SetNumbers, Numbers}
use Rattle.ov_catalog.specs.Planning.{missing, of_running, copy_off}
use Rattle.ov_catalog.specs.Raw.{place_in}
use Rattle.ov_catalog.proofs.Serving.{behind_format, wide_commits}
use Rattle.law_events.specs.Fitting.{IsSoundEvent}

rest_none : (b : Bool) (f : Field) (rest : Option Field) → option_or (off_unless b f) rest ≡ None → rest ≡ None
rest_none true f rest e = e
rest_none false f rest e = cc

last_holds : (b : Bool) (f : Field) → off_unless b f ≡ None → b ≡ true
last_holds true f e = refl
last_holds false f e = cc

both : (a b : Bool) → (a && b) ≡ true → (a ≡ true) × (b ≡ true)
both true b e = (refl, e)
both false b e = cc

some_live : (test : SetNumbers Extent Extent → Option Field) (found : Option (SetNumbers Extent Extent)) → of_live test found ≡ None → (d : SetNumbers Extent Extent) × (test d ≡ None)
some_live test None e = cc
some_live test (Some d) e = (d, e)

init_extents : (n : Numbers Extent Extent) (name : List ℕ) (s : RawSchema) (rows : ℕ) (list segment : Extent) → init_off name s rows list segment n ≡ None
    → (is_list rows list ≡ true) × (is_segment rows segment ≡ true)
init_extents n name s rows list segment e =
    both (is_list rows list) (is_segment rows segment)
    (last_holds (is_list rows list && is_segment rows segment) off.Place
    (rest_none (nat_le rows 1000000) off.Rows _
    (rest_none (is_schema s) off.Schema _
    (rest_none (is_name name && (not (list_any (is_named name) n.sets) && nat_lt (length n.sets) 1024)) off.Name _
    (rest_none (nat_lt n.next 4294967295) off.Number _ e)))))

commit_extents : (vid : ℕ) (message : List ℕ) (parents : List (ℕ × ℕ)) (rows fresh : ℕ) (place : Place) (added : ℕ) (list segment : Extent) (d : SetNumbers Extent Extent)
    → commit_off vid message parents rows fresh place added list segment d ≡ None → (is_list rows list ≡ true) × (is_segment added segment ≡ true)
commit_extents vid message parents rows fresh place added list segment d e =
    both (is_list rows list) (is_segment added segment)
    (last_holds (is_list rows list && is_segment added segment) off.Place
    (rest_none (is_count d rows fresh added place) off.Count _
    (rest_none (is_place place (placed (facts_of d (heaviest parents)))) off.Placing _
    (rest_none (nat_le rows 1000000 && (nat_le fresh rows && (nat_le rows (d.records + fresh) && nat_le (d.records + fresh) (2 ^ 31)))) off.Rows _
    (rest_none (are_parents d.versions rows parents) off.Parent _
    (rest_none (nat_le (length message) 1024) off.Message _
    (rest_none (vid == length d.versions + 1 && nat_le vid 65535) off.Vid _ e)))))))

some_running : (test : PlanNumbers Extent → Option Field) (plan : Option (PlanNumbers Extent)) → of_running test plan ≡ None → (p : PlanNumbers Extent) × (test p ≡ None)
some_running test None e = cc
some_running test (Some p) e = (p, e)

copy_extent : (count : ℕ) (segment : Extent) (plan : PlanNumbers Extent) → copy_off count segment plan ≡ None → (not (segment.bytes == 0) ≡ true) × (is_extent segment ≡ true)
copy_extent count segment plan e =
    both (not (segment.bytes == 0)) (is_extent segment)
    (last_holds (not (segment.bytes == 0) && is_extent segment) off.Place
    (rest_none (nat_le 1 count && count == min 256 (missing plan)) off.Count _ e))

pub applies_sound : (format : ℕ) (e : raw.Event) (n : Numbers Extent Extent) → first_off format e n ≡ None → IsSoundEvent e
applies_sound format (says.Init name s rows list segment) n e = init_extents n name s rows list segment e
applies_sound format (says.Commit cvd vid message parents rows fresh place added list segment) n e =
    let live = some_live (commit_off vid message parents rows fresh (place_in place) added list segment) (set_numbered cvd n) e
    in commit_extents vid message parents rows fresh (place_in place) added list segment live.0 live.1
applies_sound format (says.Plan cvd p q targets) n e = tt
applies_sound format (says.Copy cvd count segment) n e =
    let live = some_live (λ d. of_running (copy_off count segment) d.plan) (set_numbered cvd n) e
    in let runs = some_running (copy_off count segment) live.0.plan live.1
    in copy_extent count segment runs.0 runs.1
applies_sound format (says.Flip cvd) n e = tt
applies_sound format (says.Drop cvd) n e = tt
applies_sound format (says.Base next) n e = absurd cc
applies_sound format (says.Whole said) n e = absurd cc
applies_sound format (says.Wide cvd vid message columns parents rows fresh place added list segment) n e =
    let test = wide_off vid message columns parents rows fresh (place_in place) added list segment
    in let live = some_live test (set_numbered cvd n) (behind_format format (of_live test (set_numbered cvd n)) e)
    in commit_extents vid message parents rows fresh (place_in place) added list segment live.0
    (wide_commits vid message columns parents rows fresh (place_in place) added list segment live.0 live.1)
