-- What is refused by numbers is what the World refuses, of whole calls.
use Rattle.std.proofs.Common.{◌≡◌, ◌==◌, ◌||◌, ◌<◌, ◌≤◌, ◌+◌, ◌^◌, ℕ, Bool, true, false, List, [], ◌∷◌, length, refl, sym, ◌∙◌, ap, subst}
use Rattle.std.specs.Prelude.{Option, Some, None, nat_le, nat_lt, if◌then◌else◌, option_map}
use Rattle.std.specs.Option.{option_or, option_and_then}
use Rattle.std.specs.Str.{bytes_eq}
use Rattle.std.proofs.lemmas.Bool.{le-ltb, lt-ltb}
use Rattle.std.proofs.lemmas.Slice.Eq.{bytes_eq-Decides}
use Rattle.ov_host.specs.Host.{State}
use Rattle.ov_value.specs.Shapes.{Shape}
use Rattle.ov_model.specs.Act.{commit_refusal, if_so, init_refusal, records_refusal, rows_refusal, vids_refusal}
use Rattle.ov_value.specs.declared.column.Column.{Column}
use Rattle.ov_model.specs.Book.{Row}
use Rattle.ov_model.specs.Moves.{wide}
use Rattle.ov_model.specs.Records.{order_of}
use Rattle.ov_model.specs.World.{Dataset, World, first_set, named, set_named, is_one}
use Rattle.ov_model.specs.declared.refusal.Refusal.{Refusal}
use Rattle.ov_model.specs.declared.refusal.Refusal.TheVariants as no
use Rattle.ov_catalog.specs.Numbers.{Numbers}
use Rattle.ov_catalog.specs.Reached.{Fits}
use Rattle.ov_fetch.specs.Extents.{page_bytes}
use Rattle.law_image.specs.Pages.{readings_of}
use Rattle.ov_core.specs.AtWorld.{IsAtWorld}
use Rattle.ov_core.specs.Held.{Held}
use Rattle.ov_rows.specs.Refusing.{rows_off, refusal_of as row_refusal}
use Rattle.ov_rows.specs.declared.rows_err.RowsErr.{RowsErr}
use Rattle.ov_rows.specs.declared.rows_err.RowsErr.TheVariants as rows_err
use Rattle.ov_rows.proofs.Agreeing.{never_memory, refused_alike}
use Rattle.law_reads.specs.Sights.{HasNumbers}
use Rattle.law_reads.proofs.Counted.{numbers}
use Rattle.ov_store.specs.declared.errors.StoreErr.{StoreErr}
use Rattle.ov_store.specs.declared.errors.StoreErr.TheVariants as why
use Rattle.ov_store.specs.Beginning.{init_off}
use Rattle.ov_store.specs.Committing.{Set, Wish, adds, commit_move, commit_off, fresh_in_world, parents_off, parents_off_in, schema_for, to_off}
use Rattle.ov_store.specs.Errors.{of_rows}
use Rattle.ov_store.specs.Refusals.{new_off, off_if, refusal_of, refused, vids_off}
use Rattle.ov_store.specs.Scanning.{set_in}
use Rattle.ov_store.specs.Worlds.{HasSchema, begin_refusal, parents_of_set, parents_refusal, version_refusal}
use Rattle.ov_store.proofs.Commits.{fits_few}
use Rattle.ov_store.proofs.Dropping.{drop_gone, number_seen}
use Rattle.ov_store.proofs.Fitting.{sees}
use Rattle.ov_store.proofs.Refusing.{new_refused, refused_last, vids_refused}
use Rattle.ov_store.proofs.Seeing.{found_set}
use Rattle.ov_store.proofs.Widening.{wide_name, wide_schema_is}

-- ---- one refusal before another

-- each is a refusal of the World's
abbrev NamesOne : List ℕ → Option StoreErr → Type 0
NamesOne name o = (x : StoreErr) → o ≡ Some x → (r : Refusal) × (refusal_of name x ≡ Some r)

inside : (x y : StoreErr) → Some x ≡ Some y → x ≡ y
inside x y e = ap (λ o. elim o as (λ _. StoreErr) [ None ↦ x | Some z ↦ z ]) e

names_none : (name : List ℕ) → NamesOne name None
names_none name x e = absurd cc

names_some : (name : List ℕ) (off : StoreErr) (r : Refusal) → refusal_of name off ≡ Some r → NamesOne name (Some off)
names_some name off r is x e = (r, subst (λ y. refusal_of name y ≡ Some r) (inside off x e) is)

names_if : (name : List ℕ) (b : Bool) (off : StoreErr) (r : Refusal) → refusal_of name off ≡ Some r → NamesOne name (off_if b off)
names_if name true off r is = names_some name off r is
names_if name false off r is = names_none name

names_or : (name : List ℕ) (a b : Option StoreErr) → NamesOne name a → NamesOne name b → NamesOne name (option_or a b)
names_or name None b first second = second
names_or name (Some x) b first second = first

refused_then : (name : List ℕ) (o rest : Option StoreErr) → NamesOne name o → refused name (option_or o rest) ≡ option_or (refused name o) (refused name rest)
refused_then name None rest names = refl
refused_then name (Some x) rest names =
    let one = names x refl in one.1 ∙ ap (λ r. option_or r (refused name rest)) (sym one.1)

or_assoc : {A : Type 0} (a b c : Option A) → option_or a (option_or b c) ≡ option_or (option_or a b) c
or_assoc None b c = refl
or_assoc (Some x) b c = refl

-- ---- of names, versions and rows

names_new : {L S : Type 0} (name : List ℕ) (n : Numbers L S) → NamesOne name (new_off n name)
names_new name n =
    names_or name _ _ (names_if name _ why.CvdExists (no.CvdExists name) refl)
    (names_or name _ _ (names_if name _ why.TooManyCvds no.TooManyCvds refl) (names_if name _ why.NoNumbers (no.NoNumbers name) refl))

names_vids : (name : List ℕ) (count : ℕ) (before vids : List ℕ) → NamesOne name (vids_off count before vids)
names_vids name count before [] = names_none name
names_vids name count before (vid ∷ vids) = by (vid == 0 || nat_lt count vid) (is_one before vid) (names_vids name count (vid ∷ before) vids)
  where
    by : (off again : Bool) → NamesOne name (vids_off count (vid ∷ before) vids)
        → NamesOne name (if off then Some (why.NoVersion vid) else if again then Some (why.RepeatedVersion vid) else vids_off count (vid ∷ before) vids)
    by true again later = names_some name (why.NoVersion vid) (no.NoVersion vid) refl
    by false true later = names_some name (why.RepeatedVersion vid) (no.RepeatedVersion vid) refl
    by false false later = later

names_parents : (name : List ℕ) (s : Set) (vids : List ℕ) → NamesOne name (parents_off s vids)
names_parents name s vids =
    names_or name _ _ (names_vids name (length s.versions) [] vids) (names_if name (nat_le 65535 (length s.versions)) why.TooManyVersions (no.TooManyVersions name) refl)

names_row : (name : List ℕ) (o : Option RowsErr) → (o ≡ Some rows_err.Memory → ⊥) → NamesOne name (option_map of_rows o)
names_row name None never = names_none name
names_row name (Some rows_err.TooManyRows) never = names_some name why.TooManyRows no.TooManyRows refl
names_row name (Some (rows_err.DuplicateKey row)) never = names_some name (why.DuplicateKey row) (no.DuplicateKey row) refl
names_row name (Some (rows_err.FormatOne row)) never = names_some name (why.FormatOne row) (no.FormatOne row) refl
names_row name (Some rows_err.Memory) never = absurd (never refl)

names_rows : (name : List ℕ) (format : ℕ) (schema : Shape) (more : Bool) (rows : List Row) → NamesOne name (option_map of_rows (rows_off format schema more rows))
names_rows name format schema more rows = names_row name (rows_off format schema more rows) (never_memory format schema more rows)

row_refused : (name : List ℕ) (o : Option RowsErr) → refused name (option_map of_rows o) ≡ option_and_then row_refusal o
row_refused name None = refl
row_refused name (Some rows_err.TooManyRows) = refl
row_refused name (Some (rows_err.DuplicateKey row)) = refl
row_refused name (Some (rows_err.FormatOne row)) = refl
row_refused name (Some rows_err.Memory) = refl

rows_refused : (name : List ℕ) (w : World) (format : ℕ) (schema : Shape) (more : Bool) (rows : List Row) → w.format ≡ format
    → refused name (option_map of_rows (rows_off format schema more rows)) ≡ rows_refusal w schema more rows
rows_refused name w format schema more rows same =
    row_refused name (rows_off format schema more rows)
    ∙ ap (λ f. option_and_then row_refusal (rows_off f schema more rows)) (sym same)
    ∙ sym (refused_alike w schema more rows)

name_found : (name : List ℕ) (sets : List Dataset) (d : Dataset) → first_set (named name) sets ≡ Some d → d.cvd.name ≡ name
name_found name [] d e = absurd cc
name_found name (x ∷ sets) d e = by (bytes_eq x.cvd.name name) (λ same. (bytes_eq-Decides x.cvd.name name).0 same) e (name_found name sets d)
  where
    by : (b : Bool) → (b ≡ true → x.cvd.name ≡ name) → (if b then Some x else first_set (named name) sets) ≡ Some d → (first_set (named name) sets ≡ Some d → d.cvd.name ≡ name)
        → d.cvd.name ≡ name
    by true same is later = let one : x ≡ d = ap (λ o. elim o as (λ _. Dataset) [ None ↦ x | Some y ↦ y ]) is in ap (λ (y : Dataset). y.cvd.name) (sym one) ∙ same refl
    by false same is later = later is

module _ (w : World) (held : Held) (s : State) (at : IsAtWorld w held s) (name : List ℕ) where
  -- ---- a dataset that begins

  pub may_begin_refused : refused name (new_off held.numbers name) ≡ init_refusal w name
  may_begin_refused = new_refused (readings_of s.tape.disk.pages.bytes) held.numbers w name (sees w held s at)

  pub begin_refused : (schema : Shape) (rows : List Row) → refused name (init_off held name schema rows) ≡ begin_refusal w name schema rows
  begin_refused schema rows =
      refused_then name (new_off held.numbers name) (option_map of_rows (rows_off held.journal.format schema false rows)) (names_new name held.numbers)
      ∙ (λ i. option_or (may_begin_refused i) (rows_refused name w held.journal.format schema false rows at.stands.format i))

  -- ---- a dataset that isn't there

  pub none_named : set_in held.numbers name ≡ None → set_named w name ≡ None
  none_named none = drop_gone w held s at name (ap (option_map (λ (d : Set). d.number)) none)

  pub world_named : (set : Set) → set_in held.numbers name ≡ Some set → (d : Dataset) × (set_named w name ≡ Some d)
  world_named set found = by (set_named w name) refl
    where
      by : (o : Option Dataset) → set_named w name ≡ o → (d : Dataset) × (set_named w name ≡ Some d)
      by None none =
          let clash : Some set.number ≡ None = ap (option_map (λ (d : Set). d.number)) (sym found)
          ∙ number_seen (readings_of s.tape.disk.pages.bytes) held.numbers w name (sees w held s at) ∙ ap (option_map (λ (d : Dataset). d.cvd.number)) none
          in absurd cc
      by (Some d) is = (d, is)

  module _ (d : Dataset) (is : set_named w name ≡ Some d) where
    pub set_found : (set : Set) × (set_in held.numbers name ≡ Some set)
    set_found = by (set_in held.numbers name) refl
      where
        by : (o : Option Set) → set_in held.numbers name ≡ o → (set : Set) × (set_in held.numbers name ≡ Some set)
        by None none = let clash : None ≡ Some d = sym (none_named none) ∙ is in absurd cc
        by (Some set) found = (set, found)

    -- ---- a version

    module _ (set : Set) (found : set_in held.numbers name ≡ Some set) where
      pub counts : HasNumbers set d
      counts = numbers w (page_bytes s) set d (found_set w held s at name set d found is)

      pub parents_refused : (vids : List ℕ) → refused name (parents_off set vids) ≡ commit_refusal d vids
      parents_refused vids =
          let many : ℕ → Bool = λ n. nat_le 65535 n
          in refused_then name (vids_off (length set.versions) [] vids) (off_if (many (length set.versions)) why.TooManyVersions) (names_vids name (length set.versions) [] vids)
          ∙ (λ i. option_or (vids_refused name (length set.versions) [] vids i) (refused_last name (many (length set.versions)) why.TooManyVersions (no.TooManyVersions name) refl i))
          ∙ (λ i. option_or (vids_refusal (counts.versions i) [] vids) (if_so (many (counts.versions i)) (no.TooManyVersions (sym (name_found name w.sets d is) i))))

      numbers_refused : (vids : List ℕ) (added : List Column) (rows : List Row)
          → refused name (to_off held.journal.format (Some set) vids added rows) ≡ option_or (commit_refusal d vids) (rows_refusal w (wide added d).cvd.schema (adds added) rows)
      numbers_refused vids added rows =
          refused_then name (parents_off set vids) (option_map of_rows (rows_off held.journal.format (schema_for set.schema added) (adds added) rows)) (names_parents name set vids)
          ∙ (λ i. option_or (parents_refused vids i) (rows_refused name w held.journal.format (schema_for set.schema added) (adds added) rows at.stands.format i))
          ∙ ap (λ schema. option_or (commit_refusal d vids) (rows_refusal w schema (adds added) rows))
          (ap (λ schema. schema_for schema added) counts.schema ∙ sym (wide_schema_is added d))

    -- all but the number of records
    module _ (wish : Wish) where
      abbrev many : Option Refusal
      many = records_refusal (wide wish.added d) (fresh_in_world d wish)

      version_is : version_refusal w d wish ≡ option_or (refused name (commit_off held name wish.vids wish.added wish.rows)) many
      version_is =
          let there = set_found
          in or_assoc (commit_refusal d wish.vids) (rows_refusal w (wide wish.added d).cvd.schema (adds wish.added) wish.rows) many
          ∙ ap (λ o. option_or o many)
          (sym (ap (λ set. refused name (to_off held.journal.format set wish.vids wish.added wish.rows)) there.1 ∙ numbers_refused there.0 there.1 wish.vids wish.added wish.rows))

      passed : commit_off held name wish.vids wish.added wish.rows ≡ None → version_refusal w d wish ≡ many
      passed none = version_is ∙ ap (λ o. option_or (refused name o) many) none

      version_none : commit_off held name wish.vids wish.added wish.rows ≡ None → length (order_of (wide wish.added d).cvd.versions) + fresh_in_world d wish ≤ 2 ^ 31 → version_refusal w d wish ≡ None
      version_none none few =
          passed none ∙ ap (λ b. if_so b (no.TooManyRecords (wide wish.added d).cvd.name)) (le-ltb (2 ^ 31) (length (order_of (wide wish.added d).cvd.versions) + fresh_in_world d wish) few)

      pub version_fits : commit_off held name wish.vids wish.added wish.rows ≡ None → Fits (commit_move d wish.vids wish.message wish.added wish.rows) w → version_refusal w d wish ≡ None
      version_fits none fits = version_none none (fits_few w (page_bytes s) set_found.0 d (found_set w held s at name set_found.0 d set_found.1 is) wish fits)

      pub version_many : commit_off held name wish.vids wish.added wish.rows ≡ None → 2 ^ 31 < length (order_of (wide wish.added d).cvd.versions) + fresh_in_world d wish
          → version_refusal w d wish ≡ Some (no.TooManyRecords name)
      version_many none high =
          passed none ∙ ap (λ b. if_so b (no.TooManyRecords (wide wish.added d).cvd.name)) (lt-ltb (2 ^ 31) (length (order_of (wide wish.added d).cvd.versions) + fresh_in_world d wish) high)
          ∙ ap (λ n. Some (no.TooManyRecords n)) (wide_name wish.added d ∙ name_found name w.sets d is)

      pub version_off : (off : StoreErr) (r : Refusal) → commit_off held name wish.vids wish.added wish.rows ≡ Some off → refusal_of name off ≡ Some r → version_refusal w d wish ≡ refusal_of name off
      version_off off r same one = version_is ∙ ap (λ o. option_or (refused name o) many) same ∙ ap (λ o. option_or o many) one ∙ sym one

  -- ---- its parents alone

  module _ (set : Set) (found : set_in held.numbers name ≡ Some set) where
    pub parents_world : (vids : List ℕ) → refused name (parents_off set vids) ≡ parents_refusal w name vids
    parents_world vids =
        let there = world_named set found in parents_refused there.0 there.1 set found vids ∙ ap (parents_of_set name vids) (sym there.1)

    pub schema_world : HasSchema set.schema (set_named w name)
    schema_world = let there = world_named set found in subst (HasSchema set.schema) (sym there.1) (counts there.0 there.1 set found).schema

  pub parents_in_world : (vids : List ℕ) → refused name (parents_off_in (set_in held.numbers name) vids) ≡ parents_refusal w name vids
  parents_in_world vids = by (set_in held.numbers name) refl
    where
      by : (o : Option Set) → set_in held.numbers name ≡ o → refused name (parents_off_in o vids) ≡ parents_refusal w name vids
      by None none = ap (parents_of_set name vids) (sym (none_named none))
      by (Some set) found = parents_world set found vids
