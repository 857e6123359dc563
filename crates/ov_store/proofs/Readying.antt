-- A version is made ready from what was read of its parents.
use Rattle.std.proofs.Common.{◌≡◌, ◌∙◌, ◌≤◌, ◌<◌, ◌^◌, ℕ, true, List, [], length, refl, sym, ap, subst, inl, arith}
use Rattle.std.specs.Prelude.{IsUtf8, Some, None, Ok}
use Rattle.std.specs.List.{All, AllZip}
use Rattle.ov_event.specs.declared.event.Event as raw
use Rattle.ov_host.specs.Host.{Rose, State}
use Rattle.ov_segment.specs.declared.numbered.Record.{Record}
use Rattle.ov_value.specs.Shapes.{Shape}
use Rattle.ov_model.specs.Act.{schema_with}
use Rattle.ov_model.specs.Book.{Row}
use Rattle.ov_model.specs.Merge.{in_key_order}
use Rattle.ov_model.specs.World.{Dataset, World, set_named}
use Rattle.ov_catalog.specs.Raw.{event_in}
use Rattle.ov_catalog.specs.Reached.{AreParents, ArePlain, AreRows, Fits}
use Rattle.ov_catalog.specs.Stands.{asked_event}
use Rattle.ov_fetch.specs.declared.errors.FetchErr.{FetchErr}
use Rattle.ov_fetch.specs.declared.errors.FetchErr.TheVariants as fetch
use Rattle.ov_fetch.specs.Extents.{page_bytes}
use Rattle.law_commits.specs.Agreeing.{ParentsAgree}
use Rattle.ov_read.specs.Agreement.{IsThere}
use Rattle.ov_read.specs.OfWorld.{IsSetOf}
use Rattle.ov_parents.specs.Parents.{IsParent, RefusesParents, with_added}
use Rattle.ov_parents.proofs.Longer.{stored_with}
use Rattle.ov_records.specs.Records.{lists_of}
use Rattle.law_reads.proofs.Counted.{numbers}
use Rattle.ov_new_version.specs.declared.errors.CommitErr.{CommitErr}
use Rattle.ov_new_version.specs.Asked.{Asked, fresh_of}
use Rattle.ov_new_version.specs.Commits.{IsCommitOf, Refuses}
use Rattle.ov_new_version.specs.OfWorld.{IsAnswered, IsAsked, IsSpared, records_with}
use Rattle.ov_core.specs.AtWorld.{IsAtWorld}
use Rattle.ov_core.specs.Brought.{content}
use Rattle.ov_core.specs.Held.{Held}
use Rattle.ov_store.specs.Changes.{Bringing}
use Rattle.ov_store.specs.Committing.{AreRead, IfSet, IsCommitBy, IsDamagedAt, IsSparedBy, IsSparedYet, IsUncommitted, IsUnready, Set, Wish, asked_of, commit_move, commit_off, fresh_in_world, schema_for}
use Rattle.ov_store.specs.Errors.{of_commit, of_fetch}
use Rattle.ov_store.specs.Scanning.{IsUndamaged, set_in}
use Rattle.ov_store.proofs.Commits.{commit_fits, commit_fresh, commit_says, other_format, parents_spared, parents_stored, plain_commit, refuses_unready, spared_by}
use Rattle.ov_store.proofs.Seeing.{found_set}
use Rattle.ov_store.proofs.Widening.{TakesAll, made_for, takes_all}

-- the host failed in the second of two calls
pub rose_later : (before between now : ℕ) → before ≤ between → Rose between now → Rose before now
rose_later before between now kept rose = omega (arith, kept, rose)

fetch_spared : (d : Dataset) (wish : Wish) (e : FetchErr) → IsUndamaged (of_fetch e) → IsSparedYet d wish (of_fetch e)
fetch_spared d wish fetch.Host is = tt
fetch_spared d wish fetch.Memory is = tt
fetch_spared d wish (fetch.Damaged page) is = absurd is

pub reading_spared : (w : World) (held : Held) (s : State) (at : IsAtWorld w held s) (name : List ℕ) (set : Set) (d : Dataset) (wish : Wish) (vids : List ℕ) (e : FetchErr)
    → set_in held.numbers name ≡ Some set → set_named w name ≡ Some d → All (IsThere set) vids → RefusesParents e (page_bytes s) set vids → IsSparedYet d wish (of_fetch e)
reading_spared w held s at name set d wish vids e found named there is =
    fetch_spared d wish e (parents_spared w (page_bytes s) set d (found_set w held s at name set d found named) vids e there is)

-- a dataset, what is asked of it, and what the code asks with: the parents, their records as they were read and with the added
-- columns, the schema with these, and the rows in key order
module _ (set : Set) (wish : Wish) (vids : List ℕ) (parents given : List (List Record)) (schema : Shape) (made : List Row) (vids_are : vids ≡ wish.vids)
    (given_are : given ≡ with_added wish.added parents) (with : schema_with set.schema wish.added ≡ Ok schema) (sorted : made ≡ in_key_order schema wish.rows) where
  schema_is : schema ≡ schema_for set.schema wish.added
  schema_is = sym (made_for set.schema schema wish.added with)

  sorted_for : made ≡ in_key_order (schema_for set.schema wish.added) wish.rows
  sorted_for = sorted ∙ ap (λ s. in_key_order s wish.rows) schema_is

  -- as the code asks
  abbrev as_asked : Asked
  as_asked = record { set = set; vids = vids; parents = given; message = wish.message; added = wish.added; schema = schema; rows = made }

  asked_is : as_asked ≡ asked_of set wish parents
  asked_is = λ i. record { set = set; vids = vids_are i; parents = given_are i; message = wish.message; added = wish.added; schema = schema_is i; rows = sorted_for i }

  abbrev as_wished : Asked
  as_wished = record { set = set; vids = wish.vids; parents = given; message = wish.message; added = wish.added; schema = schema_for set.schema wish.added; rows = made }

  wished_is : as_asked ≡ as_wished
  wished_is = λ i. record { set = set; vids = vids_are i; parents = given; message = wish.message; added = wish.added; schema = schema_is i; rows = made }

  module _ (s : State) (read : s.tells ≡ true → AllZip (IsParent (page_bytes s) set) vids parents) where
    module _ (agree : ParentsAgree set vids parents) where
      are_read : AreRead set wish s parents
      are_read = record {
        agree = subst (λ (xs : List ℕ). ParentsAgree set xs parents) vids_are agree;
        read = λ told. subst (λ (xs : List ℕ). AllZip (IsParent (page_bytes s) set) xs parents) vids_are (read told);
      }

      pub made_by : (b : Bringing) (fresh : ℕ) → IsCommitOf as_asked s.tells (page_bytes s) b.event b.list b.segment → fresh ≡ fresh_of as_asked → IsCommitBy set wish s b fresh
      made_by b fresh is count = record {
        parents = parents;
        are = are_read;
        commit = subst (λ (a : Asked). IsCommitOf a s.tells (page_bytes s) b.event b.list b.segment) asked_is is;
        fresh_is = count ∙ ap (λ (a : Asked). fresh_of a) asked_is;
      }

      pub unready_by : (held : Held) (name : List ℕ) (u : State) (e : CommitErr) → set_in held.numbers name ≡ Some set → commit_off held name wish.vids wish.added wish.rows ≡ None
          → length made ≤ 1000000 → Refuses e as_asked s.tells (page_bytes s) → IsUnready held name wish s u (of_commit e)
      unready_by held name u e found off few is =
          refuses_unready s held name set wish u parents e found off are_read (subst (λ (rows : List Row). length rows ≤ 1000000) sorted_for few)
          (subst (λ (a : Asked). Refuses e a s.tells (page_bytes s)) asked_is is)

    module _ (w : World) (held : Held) (at : IsAtWorld w held s) (name : List ℕ) (d : Dataset) (found : set_in held.numbers name ≡ Some set) (named : set_named w name ≡ Some d)
        (there : All (IsThere set) vids) where
      of_world : IsSetOf w d (page_bytes s) set
      of_world = found_set w held s at name set d found named

      pub asked_there : IsAsked as_asked w d (page_bytes s)
      asked_there = record {
        of_world = of_world;
        parents = ap lists_of given_are
            ∙ stored_with d vids wish.added parents (parents_stored w (page_bytes s) set d (found_set w held s at name set d found named) vids parents there (read at.at.told));
      }

      module _ (are : AreParents (length set.versions) vids) (text : IsUtf8 wish.message) (short : length wish.message ≤ 1024) (few : length set.versions < 65535)
          (rows : AreRows schema made) (off : commit_off held name wish.vids wish.added wish.rows ≡ None) where
        plain : ArePlain w made
        plain = subst (ArePlain w) (sym sorted_for) (plain_commit w held name set wish at.stands.format found off)

        takes : TakesAll w d wish.added
        takes = takes_all w d set.schema schema wish.added
            (λ some one. other_format held name set wish.vids wish.added wish.rows found off some (sym at.stands.format ∙ one))
            (numbers w (page_bytes s) set d of_world).schema with

        fits_asked : records_with as_wished d ≤ 2 ^ 31 → Fits (commit_move d wish.vids wish.message wish.added wish.rows) w
        fits_asked room =
            commit_fits w (page_bytes s) set d of_world wish made given sorted_for room (subst (λ (xs : List ℕ). AreParents (length set.versions) xs) vids_are are) text short few
            (subst (λ x. AreRows x made) schema_is rows) plain takes

        pub spared_there : (e : CommitErr) → IsSpared e as_asked w d → IsSparedBy w d wish (of_commit e)
        spared_there e is = spared_by w (page_bytes s) set d of_world wish made given sorted_for fits_asked e (subst (λ (a : Asked). IsSpared e a w d) wished_is is)

        pub fits_there : (e : raw.Event) (fresh : ℕ) (list segment : List ℕ) → IsAnswered as_asked w d e fresh list segment → Fits (commit_move d wish.vids wish.message wish.added wish.rows) w
        fits_there e fresh list segment answered = fits_asked (subst (λ (a : Asked). records_with a d ≤ 2 ^ 31) wished_is answered.room)

      module _ (e : raw.Event) (fresh : ℕ) (list segment : List ℕ) (answered : IsAnswered as_asked w d e fresh list segment) where
        as_answered : IsAnswered as_wished w d e fresh list segment
        as_answered = subst (λ (a : Asked). IsAnswered a w d e fresh list segment) wished_is answered

        pub fresh_there : fresh ≡ fresh_in_world d wish
        fresh_there = commit_fresh w (page_bytes s) set d of_world wish made given sorted_for e fresh list segment as_answered

        pub says_there : Some (content (event_in e) list segment) ≡ asked_event (commit_move d wish.vids wish.message wish.added wish.rows) w
        says_there = commit_says w (page_bytes s) set d of_world wish made given sorted_for e fresh list segment as_answered

pub reading_unready : (s u : State) (held : Held) (name : List ℕ) (set : Set) (wish : Wish) (e : FetchErr) → set_in held.numbers name ≡ Some set
    → commit_off held name wish.vids wish.added wish.rows ≡ None → (e ≡ fetch.Host → Rose s.faults u.faults) → (s.tells ≡ true → RefusesParents e (page_bytes s) set wish.vids)
    → IsUncommitted held name wish s u (of_fetch e)
reading_unready s u held name set wish fetch.Host found off host refuses = host refl
reading_unready s u held name set wish fetch.Memory found off host refuses = tt
reading_unready s u held name set wish (fetch.Damaged page) found off host refuses =
    (refl, off, subst (IfSet (λ x. IsDamagedAt x wish s page)) (sym found) (λ told. inl (refuses told)))
