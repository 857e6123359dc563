-- The dataset in the store's numbers, after its Init and after each commit.
use Rattle.std.proofs.Common.{◌≡◌, ◌+◌, ℕ, Bool, true, false, List, [], ◌∷◌, ◌++◌, length, refl, sym, ◌∙◌, ap, subst, inl, inr}
use Rattle.std.specs.Prelude.{◌||◌, find, Option, Some, None}
use Rattle.std.specs.List.{list_any}
use Rattle.std.specs.Option.{option_or}
use Rattle.std.specs.Str.{bytes_eq}
use Rattle.std.proofs.lemmas.Bool.{cond-true, cond-false, cases_Bool}
use Rattle.std.proofs.lemmas.Slice.Eq.{bytes_eq-Decides}
use Rattle.ov_host.specs.declared.area.Extent.{Extent}
use Rattle.ov_host.specs.Host.{State}
use Rattle.ov_catalog.specs.Applying.{is_named}
use Rattle.ov_place.specs.declared.place_facts.Place.{Place}
use Rattle.ov_catalog.specs.Events.{Commit, Init, applied, change, new_set, numbered, version_of, with_version}
use Rattle.ov_catalog.specs.Numbers.{Numbers}
use Rattle.ov_catalog.specs.Raw.{event_in}
use Rattle.ov_event.specs.declared.event.Event as raw
use Rattle.ov_new_version.specs.Asked.{Asked}
use Rattle.ov_new_version.specs.Commits.{event_for}
use Rattle.ov_value.specs.declared.column.Column.{Column}
use Rattle.ov_core.specs.Brought.{with_extents}
use Rattle.ov_core.specs.Held.{Held}
use Rattle.ov_model.specs.Book.{Row}
use Rattle.ov_model.specs.Generator.{generated_schema}
use Rattle.ov_store.specs.Beginning.{first_of}
use Rattle.ov_store.specs.Changes.{IsDone}
use Rattle.ov_store.specs.Committing.{IsCommitted, Set, Wish, asked_of}
use Rattle.ov_store.specs.Refusals.{new_off, off_if}
use Rattle.ov_store.specs.declared.errors.StoreErr.{StoreErr}
use Rattle.ov_store.specs.declared.errors.StoreErr.TheVariants as why
use Rattle.ov_store.specs.declared.store.Committed.{Committed}
use Rattle.ov_generate.specs.Making.{IsKnown}

-- ---- a dataset more

free_if : (b : Bool) (rest : Option StoreErr) → option_or (off_if b why.CvdExists) rest ≡ None → b ≡ false
free_if true rest e = absurd cc
free_if false rest e = refl

pub none_named : (n : Numbers Extent Extent) (name : List ℕ) → new_off n name ≡ None → list_any (is_named name) n.sets ≡ false
none_named n name none = free_if (list_any (is_named name) n.sets) _ none

or_left : (a b : Bool) → (a || b) ≡ false → a ≡ false
or_left true b e = e
or_left false b e = refl

or_right : (a b : Bool) → (a || b) ≡ false → b ≡ false
or_right true b e = absurd cc
or_right false b e = e

found_last : (q : Set → Bool) (sets : List Set) (set : Set) → list_any q sets ≡ false → q set ≡ true → find q (sets ++ set ∷ []) ≡ Some set
found_last q [] set none is = cond-true (q set) (Some set) None is
found_last q (x ∷ sets) set none is =
    cond-false (q x) (Some x) (find q (sets ++ set ∷ [])) (or_left (q x) (list_any q sets) none)
    ∙ found_last q sets set (or_right (q x) (list_any q sets) none) is

first_known : (n : Numbers Extent Extent) (name : List ℕ) (count : ℕ) (list : Extent) (segments : List Extent) → list_any (is_named name) n.sets ≡ false
    → IsKnown (applied (Init name generated_schema count list segments) n) name
first_known n name count list segments none = record {
  set = new_set n.next name generated_schema count list segments;
  named = found_last (is_named name) n.sets (new_set n.next name generated_schema count list segments) none ((bytes_eq-Decides name name).1 refl);
  schema_is = refl;
}

pub known_first : (name : List ℕ) (rows : List Row) (old new : Held) → new_off old.numbers name ≡ None → IsDone (first_of name generated_schema rows) old new
    → IsKnown new.numbers name
known_first name rows old new none done =
    subst (λ n. IsKnown n name) (sym done.applied_is) (first_known old.numbers name _ done.l _ (none_named old.numbers name none))

-- ---- a version more

module _ (number : ℕ) (f : Set → Set) (name : List ℕ) (keeps_name : (x : Set) → (f x).name ≡ x.name) (keeps_schema : (x : Set) → (f x).schema ≡ x.schema) where
  some_is : (x y : Set) → Some x ≡ Some y → x ≡ y
  some_is x y e = ap (λ o. elim o as (λ _. Set) [ None ↦ x | Some z ↦ z ]) e

  changed_found : (sets : List Set) (set : Set) → find (is_named name) sets ≡ Some set → (later : Set) × (find (is_named name) (change number f sets) ≡ Some later) × (later.schema ≡ set.schema)
  changed_found [] set e = absurd cc
  changed_found (x ∷ sets) set e =
      elim (cases_Bool (numbered number x)) [
        | inl ours ↦
            let here : change number f (x ∷ sets) ≡ f x ∷ sets = cond-true (numbered number x) (f x ∷ sets) (x ∷ change number f sets) ours
            in let same : is_named name (f x) ≡ is_named name x = ap (λ n. bytes_eq n name) (keeps_name x)
            in elim (cases_Bool (is_named name x)) [
              | inl named ↦
                  let one : x ≡ set = some_is x set (sym (cond-true (is_named name x) (Some x) (find (is_named name) sets) named) ∙ e)
                  in (f x, ap (find (is_named name)) here ∙ cond-true (is_named name (f x)) (Some (f x)) (find (is_named name) sets) (same ∙ named), keeps_schema x ∙ ap (λ (y : Set). y.schema) one)
              | inr other ↦ (
                set,
                ap (find (is_named name)) here ∙ cond-false (is_named name (f x)) (Some (f x)) (find (is_named name) sets) (same ∙ other)
                    ∙ sym (cond-false (is_named name x) (Some x) (find (is_named name) sets) other) ∙ e,
                refl,
              )
            ]
        | inr not_ours ↦
            let there : change number f (x ∷ sets) ≡ x ∷ change number f sets = cond-false (numbered number x) (f x ∷ sets) (x ∷ change number f sets) not_ours
            in elim (cases_Bool (is_named name x)) [
              | inl named ↦
                  let one : x ≡ set = some_is x set (sym (cond-true (is_named name x) (Some x) (find (is_named name) sets) named) ∙ e)
                  in (x, ap (find (is_named name)) there ∙ cond-true (is_named name x) (Some x) (find (is_named name) (change number f sets)) named, ap (λ (y : Set). y.schema) one)
              | inr other ↦
                  let later = changed_found sets set (sym (cond-false (is_named name x) (Some x) (find (is_named name) sets) other) ∙ e)
                  in (later.0, ap (find (is_named name)) there ∙ cond-false (is_named name x) (Some x) (find (is_named name) (change number f sets)) other ∙ later.1, later.2)
            ]
      ]

more_known : (n : Numbers Extent Extent) (name : List ℕ) (k : IsKnown n name) (number vid : ℕ) (message : List ℕ) (parents : List (ℕ × ℕ)) (rows fresh : ℕ) (place : Place) (added : ℕ) (list : Extent)
    (segments : List Extent) → IsKnown (applied (Commit number vid message parents rows fresh place added list segments) n) name
more_known n name k number vid message parents rows fresh place added list segments =
    let later = changed_found number (with_version (version_of parents message rows fresh list) place added segments) name (λ x. refl) (λ x. refl) n.sets k.set k.named
    in record { set = later.0; named = later.1; schema_is = later.2 ∙ k.schema_is }

-- the event of a version that brings no columns
event_alone : (a : Asked) (held list segment : List ℕ) (e : raw.Event) → e ≡ event_for a held list segment → a.added ≡ [] → e ≡ event_for (record a { added = [] }) held list segment
event_alone a held list segment e is none = is ∙ ap (λ (added : List Column). event_for (record a { added = added }) held list segment) none

pub known_more : (name : List ℕ) (old new : Held) (k : IsKnown old.numbers name) (wish : Wish) (t : State) (made : Committed) → wish.added ≡ [] → IsCommitted k.set wish t old new made
    → IsKnown new.numbers name
known_more name old new k wish t made none done =
    subst (λ n. IsKnown n name)
    (sym (done.done.applied_is ∙ ap (λ e. applied (event_in (with_extents done.done.l done.done.s e)) old.numbers)
    (event_alone (asked_of k.set wish done.by.parents) done.by.commit.held done.brought.list done.brought.segment done.brought.event done.by.commit.event_is none)))
    (more_known old.numbers name k _ (length k.set.versions + 1) _ _ _ _ _ _ done.done.l _)
