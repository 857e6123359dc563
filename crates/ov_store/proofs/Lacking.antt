-- Why a call isn't done, at a World: by what the World refuses, and for want of room only where it may be wanting.
use Rattle.std.proofs.Common.{◌≡◌, ◌≢◌, ◌+◌, ◌≤◌, ℕ, List, [], length, refl, sym, ◌∙◌, ap, subst}
use Rattle.std.specs.Prelude.{Option, Some, None}
use Rattle.ov_host.specs.Host.{State}
use Rattle.ov_host.specs.declared.area.Extent.{Extent}
use Rattle.ov_event.specs.Spelling.{spelling}
use Rattle.ov_event.specs.declared.event.Event as raw
use Rattle.ov_model.specs.Moves.{Move, Drop, Checkpoint, moved}
use Rattle.ov_model.specs.World.{Dataset, World, set_named}
use Rattle.ov_model.specs.declared.refusal.Refusal.{Refusal}
use Rattle.ov_model.specs.declared.refusal.Refusal.TheVariants as no
use Rattle.ov_catalog.specs.Extents.{live}
use Rattle.ov_core.specs.declared.brought.Brought.{Brought}
use Rattle.ov_catalog.specs.Raw.{event_in}
use Rattle.ov_catalog.specs.Reached.{Fits}
use Rattle.ov_catalog.specs.Stands.{asked_event}
use Rattle.law_image.proofs.Standing.{counted, no_event}
use Rattle.ov_core.specs.AtWorld.{IsAtNext, IsAtWorld}
use Rattle.ov_core.specs.Brought.{Asks, Brings, IsUnplaced, content}
use Rattle.ov_core.specs.Held.{Held}
use Rattle.ov_core.specs.Rooms.{IsWhyKept}
use Rattle.ov_core.specs.declared.errors.ChangeErr.{ChangeErr}
use Rattle.ov_core.specs.declared.errors.ChangeErr.TheVariants as change
use Rattle.law_room.specs.Room.{Entry, IsWithin, Made, Writes}
use Rattle.law_room.proofs.Room.{drop_is_licensed, full_is_lacking, full_is_licensed, passes_is_licensed, within_made}
use Rattle.ov_version_bytes.specs.Written.{IsLong}
use Rattle.ov_store.specs.declared.errors.StoreErr.{StoreErr}
use Rattle.ov_store.specs.declared.errors.StoreErr.TheVariants as why
use Rattle.ov_store.specs.declared.unready.Unready.{Unready}
use Rattle.ov_store.specs.declared.unready.Unready.TheVariants.{Off, TooLong}
use Rattle.ov_store.specs.Changes.{Bringing, IsDone, IsUnstored, bringing_of}
use Rattle.ov_store.specs.Committing.{IsSparedBy, IsSparedYet, IsUncommitted, IsUnready as IsVersionUnready, Wish, commit_move}
use Rattle.ov_store.specs.Errors.{of_change}
use Rattle.ov_store.specs.Refusals.{refused}
use Rattle.ov_store.specs.Unready.{AsksTooMuch, IfTooLong, IsNoRoom, IsRefused, IsUnready}
use Rattle.ov_store.specs.Worlds.{IsLack, IsRefusedAs, and_made, drop_refusal, version_refusal}
use Rattle.ov_store.proofs.Deciding.{version_fits, version_many, version_off}

-- ---- by what the World refuses

pub numbers_refuse : (name : List ℕ) (o : Option StoreErr) (off : Option Refusal) (e : StoreErr) → refused name o ≡ off → IsRefused o e → IsRefusedAs name off e
numbers_refuse name o off why.Host same is = tt
numbers_refuse name o off why.Memory same is = tt
numbers_refuse name o off (why.Damaged area at) same is = absurd is
numbers_refuse name o off (why.Full pages) same is = absurd is
numbers_refuse name o off why.JournalFull same is = absurd is
numbers_refuse name o off why.NoCvd same is = sym same ∙ ap (refused name) is
numbers_refuse name o off why.CvdExists same is = sym same ∙ ap (refused name) is
numbers_refuse name o off (why.NoVersion vid) same is = sym same ∙ ap (refused name) is
numbers_refuse name o off (why.RepeatedVersion vid) same is = sym same ∙ ap (refused name) is
numbers_refuse name o off (why.DuplicateKey row) same is = sym same ∙ ap (refused name) is
numbers_refuse name o off why.TooManyVersions same is = sym same ∙ ap (refused name) is
numbers_refuse name o off why.TooManyRecords same is = sym same ∙ ap (refused name) is
numbers_refuse name o off why.TooManyRows same is = sym same ∙ ap (refused name) is
numbers_refuse name o off why.TooManyCvds same is = sym same ∙ ap (refused name) is
numbers_refuse name o off why.NoNumbers same is = sym same ∙ ap (refused name) is
numbers_refuse name o off (why.FormatOne row) same is = sym same ∙ ap (refused name) is

pub unstored_refused : (name : List ℕ) (off : Option Refusal) (held : Held) (b : Bringing) (s t : State) (e : StoreErr) → off ≡ None → IsUnstored held b s t e → IsRefusedAs name off e
unstored_refused name off held b s t why.Host none is = tt
unstored_refused name off held b s t why.Memory none is = tt
unstored_refused name off held b s t (why.Damaged area at) none is = absurd is
unstored_refused name off held b s t (why.Full pages) none is = none
unstored_refused name off held b s t why.JournalFull none is = none
unstored_refused name off held b s t why.NoCvd none is = absurd is
unstored_refused name off held b s t why.CvdExists none is = absurd is
unstored_refused name off held b s t (why.NoVersion vid) none is = absurd is
unstored_refused name off held b s t (why.RepeatedVersion vid) none is = absurd is
unstored_refused name off held b s t (why.DuplicateKey row) none is = absurd is
unstored_refused name off held b s t why.TooManyVersions none is = absurd is
unstored_refused name off held b s t why.TooManyRecords none is = absurd is
unstored_refused name off held b s t why.TooManyRows none is = absurd is
unstored_refused name off held b s t why.TooManyCvds none is = absurd is
unstored_refused name off held b s t why.NoNumbers none is = absurd is
unstored_refused name off held b s t (why.FormatOne row) none is = absurd is

pub no_room_refused : (name : List ℕ) (off : Option Refusal) (es : List Extent) (list segment : List ℕ) (e : StoreErr) → off ≡ None → IsNoRoom es list segment e → IsRefusedAs name off e
no_room_refused name off es list segment why.Host none is = absurd is
no_room_refused name off es list segment why.Memory none is = tt
no_room_refused name off es list segment (why.Damaged area at) none is = absurd is
no_room_refused name off es list segment (why.Full pages) none is = none
no_room_refused name off es list segment why.JournalFull none is = absurd is
no_room_refused name off es list segment why.NoCvd none is = absurd is
no_room_refused name off es list segment why.CvdExists none is = absurd is
no_room_refused name off es list segment (why.NoVersion vid) none is = absurd is
no_room_refused name off es list segment (why.RepeatedVersion vid) none is = absurd is
no_room_refused name off es list segment (why.DuplicateKey row) none is = absurd is
no_room_refused name off es list segment why.TooManyVersions none is = absurd is
no_room_refused name off es list segment why.TooManyRecords none is = absurd is
no_room_refused name off es list segment why.TooManyRows none is = absurd is
no_room_refused name off es list segment why.TooManyCvds none is = absurd is
no_room_refused name off es list segment why.NoNumbers none is = absurd is
no_room_refused name off es list segment (why.FormatOne row) none is = absurd is

-- what was asked for was refused by numbers, or was too long
abbrev ByOff : StoreErr → Unready → Type 0
ByOff e u = (refusal : StoreErr) → u ≡ Off refusal → e ≡ refusal

abbrev ByLong : Held → StoreErr → Unready → Type 0
ByLong held e u = (list_pages segment_pages : ℕ) (list segment : List ℕ) → u ≡ TooLong list_pages segment_pages → IsLong list_pages segment_pages list segment
    → IsNoRoom (live held.numbers) list segment e

pub begin_refused_as : (name : List ℕ) (o : Option StoreErr) (off : Option Refusal) (held : Held) (b : Bringing) (u : Unready) (e : StoreErr) → refused name o ≡ off → IsUnready o b u
    → ByOff e u → ByLong held e u → IsRefusedAs name off e
begin_refused_as name o off held b (Off refusal) e same is by_off by_long = subst (IsRefusedAs name off) (sym (by_off refusal refl)) (numbers_refuse name o off refusal same is)
begin_refused_as name o off held b (TooLong list_pages segment_pages) e same is by_off by_long =
    no_room_refused name off (live held.numbers) b.list b.segment e (sym same ∙ ap (refused name) is.0) (by_long list_pages segment_pages b.list b.segment refl is.1)

module _ (w : World) (held : Held) (s : State) (at : IsAtWorld w held s) (name : List ℕ) (d : Dataset) (named : set_named w name ≡ Some d) (wish : Wish) where
  yet_refused : (t : State) (e : StoreErr) → IsUncommitted held name wish s t e → IsSparedYet d wish e → IsRefusedAs name (version_refusal w d wish) e
  yet_refused t why.Host is spared = tt
  yet_refused t why.Memory is spared = tt
  yet_refused t (why.Damaged area at) is spared = absurd spared
  yet_refused t (why.Full pages) is spared = absurd spared
  yet_refused t why.JournalFull is spared = absurd spared
  yet_refused t why.NoCvd is spared = version_off w held s at name d named wish why.NoCvd (no.NoCvd name) is.0 refl
  yet_refused t why.CvdExists is spared = version_off w held s at name d named wish why.CvdExists (no.CvdExists name) is.0 refl
  yet_refused t (why.NoVersion vid) is spared = version_off w held s at name d named wish (why.NoVersion vid) (no.NoVersion vid) is.0 refl
  yet_refused t (why.RepeatedVersion vid) is spared = version_off w held s at name d named wish (why.RepeatedVersion vid) (no.RepeatedVersion vid) is.0 refl
  yet_refused t (why.DuplicateKey row) is spared = version_off w held s at name d named wish (why.DuplicateKey row) (no.DuplicateKey row) is.0 refl
  yet_refused t why.TooManyVersions is spared = version_off w held s at name d named wish why.TooManyVersions (no.TooManyVersions name) is.0 refl
  yet_refused t why.TooManyRecords is spared = version_many w held s at name d named wish is.0 spared
  yet_refused t why.TooManyRows is spared = version_off w held s at name d named wish why.TooManyRows no.TooManyRows is.0 refl
  yet_refused t why.TooManyCvds is spared = version_off w held s at name d named wish why.TooManyCvds no.TooManyCvds is.0 refl
  yet_refused t why.NoNumbers is spared = version_off w held s at name d named wish why.NoNumbers (no.NoNumbers name) is.0 refl
  yet_refused t (why.FormatOne row) is spared = version_off w held s at name d named wish (why.FormatOne row) (no.FormatOne row) is.0 refl

  -- where no room is wanting yet, and the World refuses nothing of what is too long
  pub version_refused_as : (t : State) (u : Unready) (e : StoreErr) → IsVersionUnready held name wish s t u → IsSparedBy w d wish u → ByOff e u → ByLong held e u → IsRefusedAs name (version_refusal w d wish) e
  version_refused_as t (Off refusal) e is spared by_off by_long =
      subst (IsRefusedAs name (version_refusal w d wish)) (sym (by_off refusal refl)) (yet_refused t refusal is spared)
  version_refused_as t (TooLong list_pages segment_pages) e is spared by_off by_long =
      no_room_refused name (version_refusal w d wish) (live held.numbers) spared.1.written.list spared.1.written.segment e
      (version_fits w held s at name d named wish is.0 spared.0)
      (by_long list_pages segment_pages spared.1.written.list spared.1.written.segment refl spared.1.long)

-- a move with an event is no checkpoint
pub brings_other : (m : Move) (w : World) (b : Brought) → Brings m w b → m ≢ Checkpoint
brings_other m w b brings same =
    no_event w (content (event_in b.event) b.list.items b.segment.items) (subst (λ k. Some (content (event_in b.event) b.list.items b.segment.items) ≡ asked_event k w) same brings.says)

pub asks_other : (m : Move) (w : World) (e : raw.Event) → Asks m w e → m ≢ Checkpoint
asks_other m w e asks same = no_event w (content (event_in e) [] []) (subst (λ k. Some (content (event_in e) [] []) ≡ asked_event k w) same asks.says)

-- such a move keeps the epoch
pub same_epoch : (w : World) (m : Move) (old new : Held) (s t : State) → m ≢ Checkpoint → Fits m w → IsAtWorld w old s → IsAtNext (moved m w) new s t
    → new.journal.epoch ≡ old.journal.epoch
same_epoch w m old new s t other fits at next = sym next.at.stands.epoch ∙ (counted m w other fits).0 ∙ at.stands.epoch

-- ---- where room may be wanting

module _ (entry : Entry) (past : List Made) (held : Held) (m : Move) (w : World) (within : IsWithin entry past held) where
  no_room_lacks : (writes : Writes m w) (e : StoreErr) → IsNoRoom (live held.numbers) writes.list writes.segment e → IsLack entry past m w e
  no_room_lacks writes why.Host is = absurd is
  no_room_lacks writes why.Memory is = tt
  no_room_lacks writes (why.Damaged area at) is = absurd is
  no_room_lacks writes (why.Full pages) is = full_is_lacking entry past held m w writes pages within is
  no_room_lacks writes why.JournalFull is = absurd is
  no_room_lacks writes why.NoCvd is = absurd is
  no_room_lacks writes why.CvdExists is = absurd is
  no_room_lacks writes (why.NoVersion vid) is = absurd is
  no_room_lacks writes (why.RepeatedVersion vid) is = absurd is
  no_room_lacks writes (why.DuplicateKey row) is = absurd is
  no_room_lacks writes why.TooManyVersions is = absurd is
  no_room_lacks writes why.TooManyRecords is = absurd is
  no_room_lacks writes why.TooManyRows is = absurd is
  no_room_lacks writes why.TooManyCvds is = absurd is
  no_room_lacks writes why.NoNumbers is = absurd is
  no_room_lacks writes (why.FormatOne row) is = absurd is

  pub unstored_lacks : (b : Brought) (s t : State) (e : StoreErr) → IsUnplaced b → Brings m w b → IsUnstored held (bringing_of b) s t e → IsLack entry past m w e
  unstored_lacks b s t why.Host unplaced brings is = tt
  unstored_lacks b s t why.Memory unplaced brings is = tt
  unstored_lacks b s t (why.Damaged area at) unplaced brings is = absurd is
  unstored_lacks b s t (why.Full pages) unplaced brings is = full_is_licensed entry past held m w b pages within unplaced brings is
  unstored_lacks b s t why.JournalFull unplaced brings is = passes_is_licensed entry past held m w b within unplaced brings is.1
  unstored_lacks b s t why.NoCvd unplaced brings is = absurd is
  unstored_lacks b s t why.CvdExists unplaced brings is = absurd is
  unstored_lacks b s t (why.NoVersion vid) unplaced brings is = absurd is
  unstored_lacks b s t (why.RepeatedVersion vid) unplaced brings is = absurd is
  unstored_lacks b s t (why.DuplicateKey row) unplaced brings is = absurd is
  unstored_lacks b s t why.TooManyVersions unplaced brings is = absurd is
  unstored_lacks b s t why.TooManyRecords unplaced brings is = absurd is
  unstored_lacks b s t why.TooManyRows unplaced brings is = absurd is
  unstored_lacks b s t why.TooManyCvds unplaced brings is = absurd is
  unstored_lacks b s t why.NoNumbers unplaced brings is = absurd is
  unstored_lacks b s t (why.FormatOne row) unplaced brings is = absurd is

  refused_lacks : (o : Option StoreErr) (e : StoreErr) → IsRefused o e → IsLack entry past m w e
  refused_lacks o why.Host is = tt
  refused_lacks o why.Memory is = tt
  refused_lacks o (why.Damaged area at) is = tt
  refused_lacks o (why.Full pages) is = absurd is
  refused_lacks o why.JournalFull is = absurd is
  refused_lacks o why.NoCvd is = tt
  refused_lacks o why.CvdExists is = tt
  refused_lacks o (why.NoVersion vid) is = tt
  refused_lacks o (why.RepeatedVersion vid) is = tt
  refused_lacks o (why.DuplicateKey row) is = tt
  refused_lacks o why.TooManyVersions is = tt
  refused_lacks o why.TooManyRecords is = tt
  refused_lacks o why.TooManyRows is = tt
  refused_lacks o why.TooManyCvds is = tt
  refused_lacks o why.NoNumbers is = tt
  refused_lacks o (why.FormatOne row) is = tt

  yet_lacks : (d : Dataset) (wish : Wish) (e : StoreErr) → IsSparedYet d wish e → IsLack entry past m w e
  yet_lacks d wish why.Host is = tt
  yet_lacks d wish why.Memory is = tt
  yet_lacks d wish (why.Damaged area at) is = tt
  yet_lacks d wish (why.Full pages) is = absurd is
  yet_lacks d wish why.JournalFull is = absurd is
  yet_lacks d wish why.NoCvd is = tt
  yet_lacks d wish why.CvdExists is = tt
  yet_lacks d wish (why.NoVersion vid) is = tt
  yet_lacks d wish (why.RepeatedVersion vid) is = tt
  yet_lacks d wish (why.DuplicateKey row) is = tt
  yet_lacks d wish why.TooManyVersions is = tt
  yet_lacks d wish why.TooManyRecords is = tt
  yet_lacks d wish why.TooManyRows is = tt
  yet_lacks d wish why.TooManyCvds is = tt
  yet_lacks d wish why.NoNumbers is = tt
  yet_lacks d wish (why.FormatOne row) is = tt

  pub begin_lacks : (o : Option StoreErr) (b : Bringing) (u : Unready) (e : StoreErr) → IsUnready o b u → IfTooLong m w u → ByOff e u → ByLong held e u → IsLack entry past m w e
  begin_lacks o b (Off refusal) e is long by_off by_long = subst (IsLack entry past m w) (sym (by_off refusal refl)) (refused_lacks o refusal is)
  begin_lacks o b (TooLong list_pages segment_pages) e is long by_off by_long =
      no_room_lacks long.written e (by_long list_pages segment_pages long.written.list long.written.segment refl long.long)

  pub version_lacks : (d : Dataset) (wish : Wish) (is : m ≡ commit_move d wish.vids wish.message wish.added wish.rows) (u : Unready) (e : StoreErr) → IsSparedBy w d wish u → ByOff e u → ByLong held e u → IsLack entry past m w e
  version_lacks d wish is (Off refusal) e spared by_off by_long = subst (IsLack entry past m w) (sym (by_off refusal refl)) (yet_lacks d wish refusal spared)
  version_lacks d wish is (TooLong list_pages segment_pages) e spared by_off by_long =
      let long : AsksTooMuch m w list_pages segment_pages = subst (λ x. AsksTooMuch x w list_pages segment_pages) (sym is) spared.1
      in no_room_lacks long.written e (by_long list_pages segment_pages long.written.list long.written.segment refl long.long)

  pub done_within : (b : Brought) (new : Held) → IsUnplaced b → Brings m w b → IsDone (bringing_of b) held new
      → new.journal.end ≤ held.journal.end + 6 + length (spelling b.event) → new.journal.epoch ≡ held.journal.epoch → IsWithin entry (and_made past m w) new
  done_within b new unplaced brings done grows same =
      within_made entry past held new m w b within unplaced brings (record { l = done.l; s = done.s; placed = done.placed; fits = done.fits; applied_is = done.applied_is }) grows same

-- ---- a drop

module _ (name : List ℕ) (held : Held) (s t : State) (w : World) (cvd : ℕ) where
  pub drop_refused_as : (off : ChangeErr) → IsWhyKept off held cvd s t → drop_refusal w name ≡ None → IsRefusedAs name (drop_refusal w name) (of_change off)
  drop_refused_as change.Host is none = tt
  drop_refused_as change.Memory is none = tt
  drop_refused_as (change.Full pages) is none = absurd is
  drop_refused_as change.JournalFull is none = none

  pub drop_lacks : (entry : Entry) (past : List Made) (off : ChangeErr) → IsWithin entry past held → IsWhyKept off held cvd s t → IsLack entry past (Drop cvd) w (of_change off)
  drop_lacks entry past change.Host within is = tt
  drop_lacks entry past change.Memory within is = tt
  drop_lacks entry past (change.Full pages) within is = absurd is
  drop_lacks entry past change.JournalFull within is = drop_is_licensed entry past held cvd w within is
