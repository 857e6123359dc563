-- Refusals by numbers are those of the World that has them.
use Rattle.std.proofs.Common.{◌≡◌, ◌==◌, ◌||◌, ℕ, Bool, true, false, List, [], ◌∷◌, length, map, refl, sym, ◌∙◌, ap}
use Rattle.std.specs.Prelude.{Option, Some, nat_le, nat_lt, is_some, if◌then◌else◌}
use Rattle.std.specs.List.{list_any}
use Rattle.std.specs.Option.{option_or}
use Rattle.std.proofs.lemmas.List.{length-map}
use Rattle.ov_host.specs.declared.area.Extent.{Extent}
use Rattle.ov_model.specs.Act.{if_so, init_refusal, vids_refusal}
use Rattle.ov_model.specs.World.{Dataset, World, first_set, named, is_one}
use Rattle.ov_model.specs.declared.refusal.Refusal.{Refusal}
use Rattle.ov_model.specs.declared.refusal.Refusal.TheVariants as no
use Rattle.ov_catalog.specs.Applying.{is_named}
use Rattle.ov_catalog.specs.Numbers.{SetNumbers, Numbers, each_set, each}
use Rattle.ov_catalog.specs.Shown.{shown, shown_set}
use Rattle.ov_catalog.specs.Stands.{Readings, seen, asked}
use Rattle.ov_store.specs.declared.errors.StoreErr.{StoreErr}
use Rattle.ov_store.specs.declared.errors.StoreErr.TheVariants as why
use Rattle.ov_store.specs.Refusals.{off_if, new_off, vids_off, refused, refusal_of}

-- ---- what fills the holes doesn't matter

named_each : {L M S T : Type 0} (f : L → M) (g : S → T) (name : List ℕ) (sets : List (SetNumbers L S)) → list_any (is_named name) (map (each_set f g) sets) ≡ list_any (is_named name) sets
named_each f g name [] = refl
named_each f g name (d ∷ sets) = ap (λ b. is_named name d || b) (named_each f g name sets)

-- 11, 20 and 22 of a name that is taken, so many datasets, and this next number
abbrev pub by_counts : Bool → ℕ → ℕ → Option StoreErr
by_counts taken count next =
    option_or (off_if taken why.CvdExists) (option_or (off_if (nat_le 1024 count) why.TooManyCvds) (off_if (next == 4294967295) why.NoNumbers))

new_each : {L M S T : Type 0} (f : L → M) (g : S → T) (n : Numbers L S) (name : List ℕ) → new_off (each f g n) name ≡ new_off n name
new_each f g n name = λ i. by_counts (named_each f g name n.sets i) (length-map n.sets (each_set f g) i) n.next

-- ---- of a World

named_shown : (name : List ℕ) (sets : List Dataset) → list_any (is_named name) (map shown_set sets) ≡ is_some (first_set (named name) sets)
named_shown name [] = refl
named_shown name (d ∷ sets) = by (named name d) (named_shown name sets)
  where
    by : (b : Bool) → list_any (is_named name) (map shown_set sets) ≡ is_some (first_set (named name) sets)
        → (b || list_any (is_named name) (map shown_set sets)) ≡ is_some (if b then Some d else first_set (named name) sets)
    by true later = refl
    by false later = later

refused_or : (name : List ℕ) (b : Bool) (off : StoreErr) (refusal : Refusal) (rest : Option StoreErr) → refusal_of name off ≡ Some refusal
    → refused name (option_or (off_if b off) rest) ≡ option_or (if_so b refusal) (refused name rest)
refused_or name true off refusal rest e = e
refused_or name false off refusal rest e = refl

pub refused_last : (name : List ℕ) (b : Bool) (off : StoreErr) (refusal : Refusal) → refusal_of name off ≡ Some refusal → refused name (off_if b off) ≡ if_so b refusal
refused_last name true off refusal e = e
refused_last name false off refusal e = refl

counts_refused : (name : List ℕ) (taken : Bool) (count next : ℕ) → refused name (by_counts taken count next)
    ≡ option_or (if_so taken (no.CvdExists name)) (option_or (if_so (nat_le 1024 count) no.TooManyCvds) (if_so (next == 4294967295) (no.NoNumbers name)))
counts_refused name taken count next =
    refused_or name taken why.CvdExists (no.CvdExists name) (option_or (off_if (nat_le 1024 count) why.TooManyCvds) (off_if (next == 4294967295) why.NoNumbers)) refl
    ∙ ap (option_or (if_so taken (no.CvdExists name)))
    (refused_or name (nat_le 1024 count) why.TooManyCvds no.TooManyCvds (off_if (next == 4294967295) why.NoNumbers) refl
    ∙ ap (option_or (if_so (nat_le 1024 count) no.TooManyCvds)) (refused_last name (next == 4294967295) why.NoNumbers (no.NoNumbers name) refl))

pub shown_counts : (w : World) (name : List ℕ) → new_off (shown w) name ≡ by_counts (is_some (first_set (named name) w.sets)) (length w.sets) w.next
shown_counts w name = λ i. by_counts (named_shown name w.sets i) (length-map w.sets shown_set i) w.next

new_shown : (w : World) (name : List ℕ) → refused name (new_off (shown w) name) ≡ init_refusal w name
new_shown w name =
    ap (refused name) (shown_counts w name)
    ∙ counts_refused name (is_some (first_set (named name) w.sets)) (length w.sets) w.next

-- the same numbers refuse the same
pub new_seen : (r : Readings) (n : Numbers Extent Extent) (w : World) (name : List ℕ) → seen r n ≡ asked w → new_off n name ≡ new_off (shown w) name
new_seen r n w name e = sym (new_each r.list r.segment n name) ∙ ap (λ m. new_off m name) e ∙ new_each Some Some (shown w) name

pub new_refused : (r : Readings) (n : Numbers Extent Extent) (w : World) (name : List ℕ) → seen r n ≡ asked w → refused name (new_off n name) ≡ init_refusal w name
new_refused r n w name e = ap (refused name) (new_seen r n w name e) ∙ new_shown w name

-- ---- versions

pub vids_refused : (name : List ℕ) (count : ℕ) (before vids : List ℕ) → refused name (vids_off count before vids) ≡ vids_refusal count before vids
vids_refused name count before [] = refl
vids_refused name count before (vid ∷ vids) = by (vid == 0 || nat_lt count vid) (is_one before vid) (vids_refused name count (vid ∷ before) vids)
  where
    by : (off : Bool) (again : Bool) → refused name (vids_off count (vid ∷ before) vids) ≡ vids_refusal count (vid ∷ before) vids
        → refused name (if off then Some (why.NoVersion vid) else if again then Some (why.RepeatedVersion vid) else vids_off count (vid ∷ before) vids)
        ≡ (if off then Some (no.NoVersion vid) else if again then Some (no.RepeatedVersion vid) else vids_refusal count (vid ∷ before) vids)
    by true again later = refl
    by false true later = refl
    by false false later = later
