-- The events of an Init and of a Drop apply where the move fits.
use Rattle.std.proofs.Common.{◌≡◌, ◌==◌, ◌&&◌, ◌||◌, ℕ, Bool, true, false, not, nat_lt, List, [], ◌∷◌, length, map, refl, sym, ◌∙◌, ap, subst, arith}
use Rattle.std.specs.Prelude.{Option, Some, None, find, nat_le, IsTrue, if◌then◌else◌, codes}
use Rattle.std.specs.List.{list_any}
use Rattle.std.specs.Option.{option_or}
use Rattle.std.proofs.lemmas.Bool.{and_from, not_from_false, lt-ltb, le-leb}
use Rattle.std.proofs.lemmas.List.{length-map}
use Rattle.ov_event.specs.declared.event.Event as raw
use Rattle.ov_event.specs.declared.event.Event.TheVariants as says
use Rattle.ov_event.specs.declared.event.RawSchema.{RawSchema}
use Rattle.ov_host.specs.declared.area.Extent.{Extent}
use Rattle.ov_model.specs.Book.{Row}
use Rattle.ov_model.specs.Moves.{Init, Drop, numbered, version_of}
use Rattle.ov_model.specs.World.{Dataset, World, first_set, named}
use Rattle.ov_value.specs.Naming.{is_name}
use Rattle.ov_value.specs.Shapes.{Shape}
use Rattle.ov_catalog.specs.declared.field.Field.{Field}
use Rattle.ov_catalog.specs.declared.field.Field.TheVariants as off
use Rattle.ov_catalog.specs.Applying.{off_unless, is_named, is_schema, is_list, is_segment, init_off, of_live, first_off}
use Rattle.ov_catalog.specs.Events as events
use Rattle.ov_catalog.specs.Events.{Event, Drop as Dropped}
use Rattle.ov_catalog.specs.Numbers.{SetNumbers}
use Rattle.ov_catalog.specs.Raw.{shape_in, numbers_in}
use Rattle.ov_catalog.specs.Reached.{Fits, InitFits, IfThere}
use Rattle.ov_catalog.specs.Shown.{Rids, Records, shown, shown_set, init_event}
use Rattle.ov_catalog.specs.Stands.{Readings, StandsFor, seen_event, asked_as, asked_event}
use Rattle.ov_catalog.proofs.Moving.{some_same}
use Rattle.law_events.specs.Fitting.{IsSoundEvent}
use Rattle.law_events.proofs.Holes.{first_off_each}
use Rattle.law_events.proofs.Schemas.{is_shape, sound_is_shape}

pub off_none : (b : Bool) (f : Field) (rest : Option Field) → b ≡ true → rest ≡ None → option_or (off_unless b f) rest ≡ None
off_none true f rest holds none = none
off_none false f rest holds none = cc

pub off_last : (b : Bool) (f : Field) → b ≡ true → off_unless b f ≡ None
off_last true f holds = refl
off_last false f holds = cc

-- it applies to the numbers after the events where it does to those of the World
pub applies_there : (events : List raw.Event) (r : Readings) (w : World) (e : raw.Event) → StandsFor w.format events r w → first_off w.format e (shown w) ≡ None → first_off w.format e (numbers_in events) ≡ None
applies_there events r w e stands is =
    sym (first_off_each r.list r.segment w.format e (numbers_in events)) ∙ ap (first_off w.format e) stands.shows ∙ first_off_each Some Some w.format e (shown w) ∙ is

-- the dataset of a number, in the World and in numbers
pub live_shown : (test : SetNumbers Rids Records → Option Field) (cvd : ℕ) (sets : List Dataset) (d : Dataset) → first_set (numbered cvd) sets ≡ Some d → test (shown_set d) ≡ None
    → of_live test (find (events.numbered cvd) (map shown_set sets)) ≡ None
live_shown test cvd [] d e is = cc
live_shown test cvd (x ∷ sets) d e is = by (x.cvd.number == cvd) e (λ later. live_shown test cvd sets d later is)
  where
    by : (b : Bool) → (if b then Some x else first_set (numbered cvd) sets) ≡ Some d → (first_set (numbered cvd) sets ≡ Some d → of_live test (find (events.numbered cvd) (map shown_set sets)) ≡ None)
        → of_live test (if b then Some (shown_set x) else find (events.numbered cvd) (map shown_set sets)) ≡ None
    by true here later =
        let it : x ≡ d = ap (λ o. elim o as (λ _. Dataset) [ None ↦ x | Some y ↦ y ]) here
        in subst (λ y. test (shown_set y) ≡ None) (sym it) is
    by false here later = later here

-- ---- Init

none_named : (name : List ℕ) (sets : List Dataset) → first_set (named name) sets ≡ None → list_any (is_named name) (map shown_set sets) ≡ false
none_named name [] e = refl
none_named name (d ∷ sets) e = by (named name d) e (λ later. none_named name sets later)
  where
    by : (b : Bool) → (if b then Some d else first_set (named name) sets) ≡ None → (first_set (named name) sets ≡ None → list_any (is_named name) (map shown_set sets) ≡ false)
        → (b || list_any (is_named name) (map shown_set sets)) ≡ false
    by true here later = cc
    by false here later = later here

init_fits : (w : World) (name : List ℕ) (schema : Shape) (rows : List Row) (s : RawSchema) (list segment : Extent) → InitFits w name schema rows → shape_in s ≡ schema
    → IsTrue (is_list (length rows) list) → IsTrue (is_segment (length rows) segment) → init_off name s (length rows) list segment (shown w) ≡ None
init_fits w name schema rows s list segment fits same at_list at_segment =
    off_none (nat_lt w.next 4294967295) off.Number _ (lt-ltb w.next 4294967295 fits.numbers)
    (off_none (is_name name && (not (list_any (is_named name) (map shown_set w.sets)) && nat_lt (length (map shown_set w.sets)) 1024)) off.Name _
    (and_from (is_name name) (not (list_any (is_named name) (map shown_set w.sets)) && nat_lt (length (map shown_set w.sets)) 1024) fits.named
    (and_from (not (list_any (is_named name) (map shown_set w.sets))) (nat_lt (length (map shown_set w.sets)) 1024)
    (not_from_false (list_any (is_named name) (map shown_set w.sets)) (none_named name w.sets fits.new))
    (lt-ltb (length (map shown_set w.sets)) 1024 (omega (arith, fits.few, length-map w.sets shown_set)))))
    (off_none (is_schema s) off.Schema _ (ap is_shape same ∙ sound_is_shape schema fits.sound)
    (off_none (nat_le (length rows) 1000000) off.Rows _ (le-leb (length rows) 1000000 fits.sorted.few)
    (off_last (is_list (length rows) list && is_segment (length rows) segment) off.Place
    (and_from (is_list (length rows) list) (is_segment (length rows) segment) at_list at_segment)))))

-- what an event of an Init says
abbrev name_in : {L S : Type 0} → Event L S → List ℕ
name_in (events.Init name schema rows list segments) = name
name_in _ = []

abbrev schema_in : {L S : Type 0} → Shape → Event L S → Shape
schema_in none (events.Init name schema rows list segments) = schema
schema_in none _ = none

abbrev rows_in : {L S : Type 0} → Event L S → ℕ
rows_in (events.Init name schema rows list segments) = rows
rows_in _ = 0

init_shown : (r : Readings) (w : World) (e : raw.Event) (name : List ℕ) (schema : Shape) (rows : List Row) → InitFits w name schema rows → IsSoundEvent e
    → seen_event r e ≡ asked_as (init_event name (version_of [] (codes "init") rows) schema) → first_off w.format e (shown w) ≡ None
init_shown r w (says.Init given s count list segment) name schema rows fits sound spells =
    let same_name : given ≡ name = ap name_in spells
    in let same_schema : shape_in s ≡ schema = ap (schema_in schema) spells
    in let same_rows : count ≡ length rows = ap rows_in spells
    in (λ i. init_off (same_name i) s (same_rows i) list segment (shown w))
    ∙ init_fits w name schema rows s list segment fits same_schema (subst (λ n. IsTrue (is_list n list)) same_rows sound.0) (subst (λ n. IsTrue (is_segment n segment)) same_rows sound.1)
init_shown r w (says.Commit cvd vid message parents count fresh place added list segment) name schema rows fits sound spells = cc
init_shown r w (says.Plan cvd p q targets) name schema rows fits sound spells = cc
init_shown r w (says.Copy cvd count segment) name schema rows fits sound spells = cc
init_shown r w (says.Flip cvd) name schema rows fits sound spells = cc
init_shown r w (says.Drop cvd) name schema rows fits sound spells = cc
init_shown r w (says.Base next) name schema rows fits sound spells = cc
init_shown r w (says.Whole whole) name schema rows fits sound spells = cc
init_shown r w (says.Wide cvd vid message columns parents count fresh place added list segment) name schema rows fits sound spells = cc

pub init_applies : (events : List raw.Event) (r : Readings) (w : World) (e : raw.Event) (name : List ℕ) (schema : Shape) (rows : List Row)
    → StandsFor w.format events r w → Fits (Init name schema rows) w → IsSoundEvent e → Some (seen_event r e) ≡ asked_event (Init name schema rows) w
    → first_off w.format e (numbers_in events) ≡ None
init_applies events r w e name schema rows stands fits sound spells = applies_there events r w e stands (init_shown r w e name schema rows fits sound (some_same (seen_event r e) (asked_as (init_event name (version_of [] (codes "init") rows) schema)) spells))

-- ---- Drop

abbrev number_in : {L S : Type 0} → Event L S → ℕ
number_in (events.Drop cvd) = cvd
number_in _ = 0

found_live : (cvd : ℕ) (sets : List Dataset) (found : Option Dataset) → first_set (numbered cvd) sets ≡ found → IfThere (λ d. Unit {0}) found
    → of_live (λ d. None) (find (events.numbered cvd) (map shown_set sets)) ≡ None
found_live cvd sets None e fits = absurd fits
found_live cvd sets (Some d) e fits = live_shown (λ d. None) cvd sets d e refl

drop_shown : (r : Readings) (w : World) (e : raw.Event) (cvd : ℕ) → Fits (Drop cvd) w → seen_event r e ≡ asked_as (Dropped cvd) → first_off w.format e (shown w) ≡ None
drop_shown r w (says.Init given s count list segment) cvd fits spells = cc
drop_shown r w (says.Commit number vid message parents count fresh place added list segment) cvd fits spells = cc
drop_shown r w (says.Plan number p q targets) cvd fits spells = cc
drop_shown r w (says.Copy number count segment) cvd fits spells = cc
drop_shown r w (says.Flip number) cvd fits spells = cc
drop_shown r w (says.Drop number) cvd fits spells =
    let same : number ≡ cvd = ap number_in spells
    in subst (λ n. of_live (λ d. None) (find (events.numbered n) (map shown_set w.sets)) ≡ None) (sym same) (found_live cvd w.sets (first_set (numbered cvd) w.sets) refl fits)
drop_shown r w (says.Base next) cvd fits spells = cc
drop_shown r w (says.Whole whole) cvd fits spells = cc
drop_shown r w (says.Wide number vid message columns parents count fresh place added list segment) cvd fits spells = cc

pub drop_applies : (events : List raw.Event) (r : Readings) (w : World) (e : raw.Event) (cvd : ℕ)
    → StandsFor w.format events r w → Fits (Drop cvd) w → Some (seen_event r e) ≡ asked_event (Drop cvd) w
    → first_off w.format e (numbers_in events) ≡ None
drop_applies events r w e cvd stands fits spells = applies_there events r w e stands (drop_shown r w e cvd fits (some_same (seen_event r e) (asked_as (Dropped cvd)) spells))
