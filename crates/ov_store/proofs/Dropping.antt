-- A dataset that goes.
use Rattle.std.proofs.Common.{◌≡◌, ◌==◌, ℕ, Bool, true, false, List, [], ◌∷◌, map, refl, sym, ◌∙◌, ap, subst}
use Rattle.std.specs.Prelude.{Option, Some, None, find, is_some, option_map, if◌then◌else◌}
use Rattle.std.proofs.lemmas.Bool.{eq-eqb}
use Rattle.ov_host.specs.Host.{State}
use Rattle.ov_host.specs.declared.area.Extent.{Extent}
use Rattle.ov_event.specs.declared.event.Event.TheVariants as says
use Rattle.ov_model.specs.Moves.{Drop, numbered, moved}
use Rattle.ov_model.specs.World.{Dataset, World, first_set, named, set_named}
use Rattle.ov_catalog.specs.Applying.{first_off, is_named, of_live}
use Rattle.ov_catalog.specs.Events as events
use Rattle.ov_catalog.specs.Numbers.{SetNumbers, Numbers, each_set}
use Rattle.ov_catalog.specs.Reached.{Fits, IfThere}
use Rattle.ov_catalog.specs.Shown.{shown, shown_set}
use Rattle.ov_catalog.specs.Stands.{Readings, seen, asked}
use Rattle.law_image.specs.Pages.{readings_of}
use Rattle.ov_core.specs.AtWorld.{IsAtWorld}
use Rattle.ov_core.specs.Held.{Held}
use Rattle.ov_store.specs.Dropping.{number_named, dropped, without}
use Rattle.ov_store.specs.Worlds.{drop_of_set, drop_refusal}
use Rattle.ov_store.proofs.Fitting.{sees}

number_each : {L M S T : Type 0} (f : L → M) (g : S → T) (name : List ℕ) (sets : List (SetNumbers L S))
    → option_map (λ d. d.number) (find (is_named name) (map (each_set f g) sets)) ≡ option_map (λ d. d.number) (find (is_named name) sets)
number_each f g name [] = refl
number_each f g name (d ∷ sets) = by (is_named name d) (number_each f g name sets)
  where
    by : (b : Bool) → option_map (λ d. d.number) (find (is_named name) (map (each_set f g) sets)) ≡ option_map (λ d. d.number) (find (is_named name) sets)
        → option_map (λ d. d.number) (if b then Some (each_set f g d) else find (is_named name) (map (each_set f g) sets))
        ≡ option_map (λ d. d.number) (if b then Some d else find (is_named name) sets)
    by true later = refl
    by false later = later

number_shown : (name : List ℕ) (sets : List Dataset)
    → option_map (λ d. d.number) (find (is_named name) (map shown_set sets)) ≡ option_map (λ d. d.cvd.number) (first_set (named name) sets)
number_shown name [] = refl
number_shown name (d ∷ sets) = by (named name d) (number_shown name sets)
  where
    by : (b : Bool) → option_map (λ d. d.number) (find (is_named name) (map shown_set sets)) ≡ option_map (λ d. d.cvd.number) (first_set (named name) sets)
        → option_map (λ d. d.number) (if b then Some (shown_set d) else find (is_named name) (map shown_set sets))
        ≡ option_map (λ d. d.cvd.number) (if b then Some d else first_set (named name) sets)
    by true later = refl
    by false later = later

pub number_seen : (r : Readings) (n : Numbers Extent Extent) (w : World) (name : List ℕ) → seen r n ≡ asked w
    → number_named n name ≡ option_map (λ d. d.cvd.number) (set_named w name)
number_seen r n w name e =
    sym (number_each r.list r.segment name n.sets) ∙ ap (λ m. number_named m name) e ∙ number_each Some Some name (shown w).sets ∙ number_shown name w.sets

-- the dataset that is found by its name is there
found_there : (name : List ℕ) (cvd : ℕ) (sets : List (SetNumbers Extent Extent)) → option_map (λ d. d.number) (find (is_named name) sets) ≡ Some cvd
    → of_live (λ d. None) (find (events.numbered cvd) sets) ≡ None
found_there name cvd [] e = absurd cc
found_there name cvd (d ∷ sets) e = by (is_named name d) (d.number == cvd) refl e (found_there name cvd sets)
  where
    by : (b : Bool) (here : Bool) → (d.number == cvd) ≡ here → option_map (λ d. d.number) (if b then Some d else find (is_named name) sets) ≡ Some cvd
        → (option_map (λ d. d.number) (find (is_named name) sets) ≡ Some cvd → of_live (λ d. None) (find (events.numbered cvd) sets) ≡ None)
        → of_live (λ d. None) (if here then Some d else find (events.numbered cvd) sets) ≡ None
    by b true is here later = refl
    by false false is here later = later here
    by true false is here later = absurd (by_number (ap (λ o. elim o as (λ _. ℕ) [ None ↦ 0 | Some x ↦ x ]) here))
      where
        by_number : d.number ≡ cvd → ⊥
        by_number same = let yes_it : (d.number == cvd) ≡ true = eq-eqb d.number cvd same in cc

pub drop_applies : (format : ℕ) (n : Numbers Extent Extent) (name : List ℕ) (cvd : ℕ) → number_named n name ≡ Some cvd → first_off format (says.Drop cvd) n ≡ None
drop_applies format n name cvd e = found_there name cvd n.sets e

named_there : (name : List ℕ) (d : Dataset) (sets : List Dataset) → first_set (named name) sets ≡ Some d → IfThere (λ x. Unit {0}) (first_set (numbered d.cvd.number) sets)
named_there name d [] e = absurd cc
named_there name d (x ∷ sets) e = by (named name x) (x.cvd.number == d.cvd.number) refl e (named_there name d sets)
  where
    by : (b : Bool) (here : Bool) → (x.cvd.number == d.cvd.number) ≡ here → (if b then Some x else first_set (named name) sets) ≡ Some d
        → (first_set (named name) sets ≡ Some d → IfThere (λ x. Unit {0}) (first_set (numbered d.cvd.number) sets))
        → IfThere (λ x. Unit {0}) (if here then Some x else first_set (numbered d.cvd.number) sets)
    by b true is here later = tt
    by false false is here later = later here
    by true false is here later = absurd (by_number (ap (λ o. elim o as (λ _. ℕ) [ None ↦ 0 | Some y ↦ y.cvd.number ]) here))
      where
        by_number : x.cvd.number ≡ d.cvd.number → ⊥
        by_number same = let yes_it : (x.cvd.number == d.cvd.number) ≡ true = eq-eqb x.cvd.number d.cvd.number same in cc

module _ (w : World) (held : Held) (s : State) (at : IsAtWorld w held s) (name : List ℕ) (cvd : ℕ) (is : number_named held.numbers name ≡ Some cvd) where
  numbers : option_map (λ d. d.cvd.number) (set_named w name) ≡ Some cvd
  numbers = sym (number_seen (readings_of s.tape.disk.pages.bytes) held.numbers w name (sees w held s at)) ∙ is

  both : (found : Option Dataset) → set_named w name ≡ found → option_map (λ d. d.cvd.number) found ≡ Some cvd
      → Fits (Drop cvd) w × (moved (Drop cvd) w ≡ without found w)
  both None e is_it = absurd cc
  both (Some d) e is_it =
      let same : d.cvd.number ≡ cvd = ap (λ o. elim o as (λ _. ℕ) [ None ↦ 0 | Some y ↦ y ]) is_it
      in (subst (λ k. Fits (Drop k) w) same (named_there name d w.sets e), ap (λ k. moved (Drop k) w) (sym same))

  pub drop_fits : Fits (Drop cvd) w
  drop_fits = (both (set_named w name) refl numbers).0

  pub drop_is : moved (Drop cvd) w ≡ dropped name w
  drop_is = (both (set_named w name) refl numbers).1

  -- it is there, is not refused, and has the number
  pub drop_number : (is_some (set_named w name) ≡ true) × (drop_refusal w name ≡ None) × ((d : Dataset) → set_named w name ≡ Some d → cvd ≡ d.cvd.number)
  drop_number = by (set_named w name) numbers
    where
      by : (o : Option Dataset) → option_map (λ d. d.cvd.number) o ≡ Some cvd
          → (is_some o ≡ true) × (drop_of_set name o ≡ None) × ((d : Dataset) → o ≡ Some d → cvd ≡ d.cvd.number)
      by None e = absurd cc
      by (Some x) e = (refl, refl, λ d same. ap (λ o. elim o as (λ _. ℕ) [ None ↦ cvd | Some y ↦ y ]) (sym e ∙ ap (option_map (λ (y : Dataset). y.cvd.number)) same))

pub drop_gone : (w : World) (held : Held) (s : State) (at : IsAtWorld w held s) (name : List ℕ) → number_named held.numbers name ≡ None → set_named w name ≡ None
drop_gone w held s at name gone = by (set_named w name) (sym (number_seen (readings_of s.tape.disk.pages.bytes) held.numbers w name (sees w held s at)) ∙ gone)
  where
    by : (o : Option Dataset) → option_map (λ (d : Dataset). d.cvd.number) o ≡ None → o ≡ None
    by None e = refl
    by (Some d) e = absurd cc
