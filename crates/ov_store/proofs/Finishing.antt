-- A commit out of its parts.
use Rattle.std.proofs.Common.{◌≡◌, ◌∙◌, ◌≤◌, ◌<◌, ℕ, true, List, length, refl, sym, ap, subst, arith}
use Rattle.std.specs.Prelude.{Option, Some, None}
use Rattle.std.specs.Option.{option_map}
use Rattle.ov_host.specs.Host.{State}
use Rattle.ov_host.specs.Tape.{Tape}
use Rattle.ov_host.specs.declared.area.Extent.{Extent}
use Rattle.ov_value.specs.declared.column.Column.{Column}
use Rattle.ov_model.specs.Book.{Row}
use Rattle.ov_model.specs.Moves.{moved}
use Rattle.ov_model.specs.World.{Dataset, World, set_named}
use Rattle.ov_catalog.specs.Extents.{live}
use Rattle.law_image.specs.Pages.{readings_of}
use Rattle.ov_core.specs.AtWorld.{IsAtWorld}
use Rattle.ov_core.specs.Held.{Held}
use Rattle.ov_fetch.specs.Extents.{Looked}
use Rattle.ov_new_version.specs.Asked.{fresh_of}
use Rattle.ov_version_bytes.specs.Written.{IsLong}
use Rattle.ov_store.specs.declared.errors.StoreErr.{StoreErr}
use Rattle.ov_store.specs.declared.errors.StoreErr.TheVariants as why
use Rattle.ov_store.specs.declared.unready.Unready.{Unready}
use Rattle.ov_store.specs.declared.unready.Unready.TheVariants.{Off, TooLong}
use Rattle.ov_store.specs.Changes.{Bringing, IsUnstored}
use Rattle.ov_store.specs.Committing.{FindsNoRun, FindsNoRecord, IfSet, asked_of, IsCommitBy, IsSparedBy, IsSparedOff, IsSparedYet, IsTooLongFor, IsUncommitted, IsUnready, Set, Wish, commit_move, commit_off, committed, to_off, with_commit}
use Rattle.ov_store.specs.Kept.{Kept, MayCall, Stays}
use Rattle.ov_store.specs.Scanning.{set_in}
use Rattle.ov_store.specs.Unready.{IsFewPages, IsNoRoom}
use Rattle.ov_store.proofs.Dropping.{number_seen}
use Rattle.ov_store.proofs.Fitting.{sees}
use Rattle.ov_store.proofs.Readying.{rose_later}

-- ---- the dataset is there where nothing refuses

there_in : (format : ℕ) (o : Option Set) (vids : List ℕ) (added : List Column) (rows : List Row) → to_off format o vids added rows ≡ None → (set : Set) × (o ≡ Some set)
there_in format None vids added rows e = absurd cc
there_in format (Some set) vids added rows e = (set, refl)

pub set_there : (held : Held) (name vids : List ℕ) (added : List Column) (rows : List Row) → commit_off held name vids added rows ≡ None
    → (set : Set) × (set_in held.numbers name ≡ Some set)
set_there held name vids added rows off = there_in held.journal.format (set_in held.numbers name) vids added rows off

module _ (w : World) (held : Held) (s : State) (at : IsAtWorld w held s) (name : List ℕ) (wish : Wish) (off : commit_off held name wish.vids wish.added wish.rows ≡ None) where
  not_gone : set_named w name ≡ None → ⊥
  not_gone none =
      let there = set_there held name wish.vids wish.added wish.rows off
      in let number : Some there.0.number ≡ None
      = sym (ap (option_map (λ (d : Set). d.number)) there.1)
      ∙ number_seen (readings_of s.tape.disk.pages.bytes) held.numbers w name (sees w held s at)
      ∙ ap (option_map (λ (d : Dataset). d.cvd.number)) none
      in cc

  pub commits : (P : World → Type 0) → ((d : Dataset) → set_named w name ≡ Some d → P (moved (commit_move d wish.vids wish.message wish.added wish.rows) w)) → P (committed name wish w)
  commits P each = by (set_named w name) refl
    where
      by : (o : Option Dataset) → set_named w name ≡ o → P (with_commit o wish w)
      by None none = absurd (not_gone none)
      by (Some d) named = each d named

-- ---- not ready

if_set : (P Q : Set → Type 0) → ((x : Set) → P x → Q x) → (o : Option Set) → IfSet P o → IfSet Q o
if_set P Q f None is = is
if_set P Q f (Some x) is = f x is

pub few_pages : (held : Held) (name : List ℕ) (wish : Wish) (s t : State) (u : Unready) → IsUnready held name wish s t u → IsFewPages u
few_pages held name wish s t (Off refusal) is = tt
few_pages held name wish s t (TooLong list_pages segment_pages) is = (is.2, is.3)

module _ (held : Held) (name : List ℕ) (wish : Wish) (s t : State) (e : StoreErr) where
  -- no run for one of both
  no_room_for : (live : List Extent) (list segment : List ℕ) → IsNoRoom live list segment e → commit_off held name wish.vids wish.added wish.rows ≡ None
      → ((pages : ℕ) → e ≡ why.Full pages → IfSet (λ x. FindsNoRun x wish s held pages) (set_in held.numbers name)) → IsUncommitted held name wish s t e
  no_room_for = by e
    where
      by : (e : StoreErr) (live : List Extent) (list segment : List ℕ) → IsNoRoom live list segment e → commit_off held name wish.vids wish.added wish.rows ≡ None
          → ((pages : ℕ) → e ≡ why.Full pages → IfSet (λ x. FindsNoRun x wish s held pages) (set_in held.numbers name)) → IsUncommitted held name wish s t e
      by why.Memory live list segment is off full = tt
      by (why.Full pages) live list segment is off full = (off, full pages refl)
      by why.Host live list segment is off full = absurd is
      by (why.Damaged area at) live list segment is off full = absurd is
      by why.JournalFull live list segment is off full = absurd is
      by why.TooManyRecords live list segment is off full = absurd is
      by why.NoCvd live list segment is off full = absurd is
      by why.CvdExists live list segment is off full = absurd is
      by (why.NoVersion vid) live list segment is off full = absurd is
      by (why.RepeatedVersion vid) live list segment is off full = absurd is
      by (why.DuplicateKey row) live list segment is off full = absurd is
      by why.TooManyVersions live list segment is off full = absurd is
      by why.TooManyRows live list segment is off full = absurd is
      by why.TooManyCvds live list segment is off full = absurd is
      by why.NoNumbers live list segment is off full = absurd is
      by (why.FormatOne row) live list segment is off full = absurd is

no_room_spared : (live : List Extent) (list segment : List ℕ) (d : Dataset) (wish : Wish) (e : StoreErr) → IsNoRoom live list segment e → IsSparedOff d wish e
no_room_spared live list segment d wish why.Memory is = tt
no_room_spared live list segment d wish (why.Full pages) is = tt
no_room_spared live list segment d wish why.Host is = absurd is
no_room_spared live list segment d wish (why.Damaged area at) is = absurd is
no_room_spared live list segment d wish why.JournalFull is = absurd is
no_room_spared live list segment d wish why.TooManyRecords is = absurd is
no_room_spared live list segment d wish why.NoCvd is = absurd is
no_room_spared live list segment d wish why.CvdExists is = absurd is
no_room_spared live list segment d wish (why.NoVersion vid) is = absurd is
no_room_spared live list segment d wish (why.RepeatedVersion vid) is = absurd is
no_room_spared live list segment d wish (why.DuplicateKey row) is = absurd is
no_room_spared live list segment d wish why.TooManyVersions is = absurd is
no_room_spared live list segment d wish why.TooManyRows is = absurd is
no_room_spared live list segment d wish why.TooManyCvds is = absurd is
no_room_spared live list segment d wish why.NoNumbers is = absurd is
no_room_spared live list segment d wish (why.FormatOne row) is = absurd is

pub spared_yet : (d : Dataset) (wish : Wish) (e : StoreErr) → IsSparedYet d wish e → IsSparedOff d wish e
spared_yet d wish why.Host is = is
spared_yet d wish why.Memory is = is
spared_yet d wish (why.Damaged area at) is = is
spared_yet d wish (why.Full pages) is = absurd is
spared_yet d wish why.JournalFull is = absurd is
spared_yet d wish why.NoCvd is = is
spared_yet d wish why.CvdExists is = is
spared_yet d wish (why.NoVersion vid) is = is
spared_yet d wish (why.RepeatedVersion vid) is = is
spared_yet d wish (why.DuplicateKey row) is = is
spared_yet d wish why.TooManyVersions is = is
spared_yet d wish why.TooManyRecords is = is
spared_yet d wish why.TooManyRows is = is
spared_yet d wish why.TooManyCvds is = is
spared_yet d wish why.NoNumbers is = is
spared_yet d wish (why.FormatOne row) is = is

module _ (held : Held) (name : List ℕ) (wish : Wish) (s t : State) (e : StoreErr) where
  abbrev ByOff : Unready → Type 0
  ByOff u = (refusal : StoreErr) → u ≡ Off refusal → e ≡ refusal

  abbrev ByLong : Unready → Type 0
  ByLong u = (list_pages segment_pages : ℕ) (list segment : List ℕ) → u ≡ TooLong list_pages segment_pages → IsLong list_pages segment_pages list segment
      → IsNoRoom (live held.numbers) list segment e

  -- what was too long, where the dataset is there
  long_in : (list_pages segment_pages : ℕ) (o : Option Set) → IfSet (λ x. IsTooLongFor x wish s list_pages segment_pages) o → (x : Set) × IsTooLongFor x wish s list_pages segment_pages
  long_in list_pages segment_pages None is = absurd is
  long_in list_pages segment_pages (Some x) is = (x, is)

  pub unready_uncommitted : (u : Unready) → IsUnready held name wish s t u → ByOff u → ByLong u → IsUncommitted held name wish s t e
  unready_uncommitted (Off refusal) is by_off by_long = subst (IsUncommitted held name wish s t) (sym (by_off refusal refl)) is
  unready_uncommitted (TooLong list_pages segment_pages) is by_off by_long =
      let long = long_in list_pages segment_pages (set_in held.numbers name) is.1
      in no_room_for held name wish s t e (live held.numbers) long.1.long.list long.1.long.segment
      (by_long list_pages segment_pages long.1.long.list long.1.long.segment refl long.1.long.long) is.0
      (λ pages full. if_set (λ x. IsTooLongFor x wish s list_pages segment_pages) (λ x. FindsNoRun x wish s held pages)
      (λ x it. record {
        brought = record { event = it.long.event; list = it.long.list; segment = it.long.segment };
        fresh = fresh_of (asked_of x wish it.parents);
        by = record { parents = it.parents; are = it.are; commit = it.long.commit; fresh_is = refl };
        full = subst (IsNoRoom (live held.numbers) it.long.list it.long.segment) full (by_long list_pages segment_pages it.long.list it.long.segment refl it.long.long);
      }) (set_in held.numbers name) is.1)

  pub unready_spared : (w : World) (d : Dataset) (u : Unready) → IsUnready held name wish s t u → ByOff u → ByLong u → IsSparedBy w d wish u → IsSparedOff d wish e
  unready_spared w d (Off refusal) is by_off by_long spared = subst (IsSparedOff d wish) (sym (by_off refusal refl)) (spared_yet d wish refusal spared)
  unready_spared w d (TooLong list_pages segment_pages) is by_off by_long spared =
      let long = long_in list_pages segment_pages (set_in held.numbers name) is.1
      in no_room_spared (live held.numbers) long.1.long.list long.1.long.segment d wish e
      (by_long list_pages segment_pages long.1.long.list long.1.long.segment refl long.1.long.long)

-- ---- not stored

pub unstored_uncommitted : (held : Held) (name : List ℕ) (set : Set) (wish : Wish) (s t u : State) (b : Bringing) (fresh : ℕ) (e : StoreErr) → set_in held.numbers name ≡ Some set
    → commit_off held name wish.vids wish.added wish.rows ≡ None → IsCommitBy set wish s b fresh → s.faults ≤ t.faults → IsUnstored held b t u e → IsUncommitted held name wish s u e
unstored_uncommitted held name set wish s t u b fresh why.Host found off by kept is = rose_later s.faults t.faults u.faults kept is
unstored_uncommitted held name set wish s t u b fresh why.Memory found off by kept is = tt
unstored_uncommitted held name set wish s t u b fresh (why.Full pages) found off by kept is =
    (off, subst (IfSet (λ x. FindsNoRun x wish s held pages)) (sym found) (record { brought = b; fresh = fresh; by = by; full = is }))
unstored_uncommitted held name set wish s t u b fresh why.JournalFull found off by kept is =
    (off, subst (IfSet (λ x. FindsNoRecord x wish s held)) (sym found) (record { brought = b; fresh = fresh; by = by; runs = is.0; passes = is.1 }))
unstored_uncommitted held name set wish s t u b fresh (why.Damaged area at) found off by kept is = absurd is
unstored_uncommitted held name set wish s t u b fresh why.TooManyRecords found off by kept is = absurd is
unstored_uncommitted held name set wish s t u b fresh why.NoCvd found off by kept is = absurd is
unstored_uncommitted held name set wish s t u b fresh why.CvdExists found off by kept is = absurd is
unstored_uncommitted held name set wish s t u b fresh (why.NoVersion vid) found off by kept is = absurd is
unstored_uncommitted held name set wish s t u b fresh (why.RepeatedVersion vid) found off by kept is = absurd is
unstored_uncommitted held name set wish s t u b fresh (why.DuplicateKey row) found off by kept is = absurd is
unstored_uncommitted held name set wish s t u b fresh why.TooManyVersions found off by kept is = absurd is
unstored_uncommitted held name set wish s t u b fresh why.TooManyRows found off by kept is = absurd is
unstored_uncommitted held name set wish s t u b fresh why.TooManyCvds found off by kept is = absurd is
unstored_uncommitted held name set wish s t u b fresh why.NoNumbers found off by kept is = absurd is
unstored_uncommitted held name set wish s t u b fresh (why.FormatOne row) found off by kept is = absurd is

pub unstored_spared : (held : Held) (b : Bringing) (t u : State) (d : Dataset) (wish : Wish) (e : StoreErr) → IsUnstored held b t u e → IsSparedOff d wish e
unstored_spared held b t u d wish why.Host is = tt
unstored_spared held b t u d wish why.Memory is = tt
unstored_spared held b t u d wish (why.Full pages) is = tt
unstored_spared held b t u d wish why.JournalFull is = tt
unstored_spared held b t u d wish (why.Damaged area at) is = absurd is
unstored_spared held b t u d wish why.TooManyRecords is = absurd is
unstored_spared held b t u d wish why.NoCvd is = tt
unstored_spared held b t u d wish why.CvdExists is = tt
unstored_spared held b t u d wish (why.NoVersion vid) is = tt
unstored_spared held b t u d wish (why.RepeatedVersion vid) is = tt
unstored_spared held b t u d wish (why.DuplicateKey row) is = tt
unstored_spared held b t u d wish why.TooManyVersions is = tt
unstored_spared held b t u d wish why.TooManyRows is = tt
unstored_spared held b t u d wish why.TooManyCvds is = tt
unstored_spared held b t u d wish why.NoNumbers is = tt
unstored_spared held b t u d wish (why.FormatOne row) is = tt

-- ---- what a look leaves

looked_twice : (s t u : State) → Looked s t → Looked t u → Looked s u
looked_twice s t u first second = record {
  told = second.told ∙ first.told;
  kept = second.kept ∙ first.kept;
  tape = λ told. second.tape (first.told ∙ told) ∙ first.tape told;
  faults = omega (arith, first.faults, second.faults);
  fetched = omega (arith, first.fetched, second.fetched);
}

pub stays_by : (e : StoreErr) (old new : Kept) (s t : State) → ((e ≡ why.Host → ⊥) → new ≡ old) → Looked s t → Stays e old new s t
stays_by why.Host old new s t same looked = tt
stays_by why.Memory old new s t same looked = (same (λ host. absurd cc), looked)
stays_by (why.Damaged area at) old new s t same looked = (same (λ host. absurd cc), looked)
stays_by (why.Full pages) old new s t same looked = (same (λ host. absurd cc), looked)
stays_by why.JournalFull old new s t same looked = (same (λ host. absurd cc), looked)
stays_by why.TooManyRecords old new s t same looked = (same (λ host. absurd cc), looked)
stays_by why.NoCvd old new s t same looked = (same (λ host. absurd cc), looked)
stays_by why.CvdExists old new s t same looked = (same (λ host. absurd cc), looked)
stays_by (why.NoVersion vid) old new s t same looked = (same (λ host. absurd cc), looked)
stays_by (why.RepeatedVersion vid) old new s t same looked = (same (λ host. absurd cc), looked)
stays_by (why.DuplicateKey row) old new s t same looked = (same (λ host. absurd cc), looked)
stays_by why.TooManyVersions old new s t same looked = (same (λ host. absurd cc), looked)
stays_by why.TooManyRows old new s t same looked = (same (λ host. absurd cc), looked)
stays_by why.TooManyCvds old new s t same looked = (same (λ host. absurd cc), looked)
stays_by why.NoNumbers old new s t same looked = (same (λ host. absurd cc), looked)
stays_by (why.FormatOne row) old new s t same looked = (same (λ host. absurd cc), looked)

pub stays_later : (e : StoreErr) (old new : Kept) (s t u : State) → Looked s t → Stays e old new t u → Stays e old new s u
stays_later why.Host old new s t u looked is = tt
stays_later why.Memory old new s t u looked is = (is.0, looked_twice s t u looked is.1)
stays_later (why.Damaged area at) old new s t u looked is = (is.0, looked_twice s t u looked is.1)
stays_later (why.Full pages) old new s t u looked is = (is.0, looked_twice s t u looked is.1)
stays_later why.JournalFull old new s t u looked is = (is.0, looked_twice s t u looked is.1)
stays_later why.TooManyRecords old new s t u looked is = (is.0, looked_twice s t u looked is.1)
stays_later why.NoCvd old new s t u looked is = (is.0, looked_twice s t u looked is.1)
stays_later why.CvdExists old new s t u looked is = (is.0, looked_twice s t u looked is.1)
stays_later (why.NoVersion vid) old new s t u looked is = (is.0, looked_twice s t u looked is.1)
stays_later (why.RepeatedVersion vid) old new s t u looked is = (is.0, looked_twice s t u looked is.1)
stays_later (why.DuplicateKey row) old new s t u looked is = (is.0, looked_twice s t u looked is.1)
stays_later why.TooManyVersions old new s t u looked is = (is.0, looked_twice s t u looked is.1)
stays_later why.TooManyRows old new s t u looked is = (is.0, looked_twice s t u looked is.1)
stays_later why.TooManyCvds old new s t u looked is = (is.0, looked_twice s t u looked is.1)
stays_later why.NoNumbers old new s t u looked is = (is.0, looked_twice s t u looked is.1)
stays_later (why.FormatOne row) old new s t u looked is = (is.0, looked_twice s t u looked is.1)

pub may_call_later : (store : Kept) (s t : State) → Looked s t → MayCall store s → MayCall store t
may_call_later store s t looked may = record {
  usable = may.usable;
  goes_on = λ told. let before : s.tells ≡ true = sym looked.told ∙ told
      in subst (λ (tape : Tape). store.held.journal.end < length tape.disk.journal.bytes) (sym (looked.tape before)) (may.goes_on before);
}
