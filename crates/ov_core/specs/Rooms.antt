-- Room for the runs of a change, and why one isn't made.
--     ArePlaced live list segment l s      where the runs go: the list's to the lowest free run, the segment's to the lowest one
--         off it
--     HaveRuns live list segment      there are runs for both
--     IsFull live list segment pages      one of them finds none
--     IsWhy why held b old new      why a change isn't made
--     IsWhyNotRecorded why held e old new      why one isn't that brings no run
--     HasNoPlace held      there is no epoch or no place for a snapshot
use Rattle.std.specs.Prelude.{◌≡◌, ◌⊎◌, ◌≤◌, ◌<◌, ℕ, ◌+◌, ◌/◌, ◌^◌, List, [], ◌∷◌, length, map}
use Rattle.ov_host.specs.declared.area.Extent.{Extent}
use Rattle.ov_host.specs.Disk.{Disk, Image, Leaves}
use Rattle.ov_host.specs.Host.{Rose, State}
use Rattle.ov_event.specs.Spelling.{spelling}
use Rattle.ov_event.specs.declared.event.Event as raw
use Rattle.ov_event.specs.declared.event.Event.TheVariants as says
use Rattle.ov_journal.specs.Checkpoints.{HasNoRoom, turned_to}
use Rattle.ov_journal.specs.Held as journals
use Rattle.ov_catalog.specs.Extents.{covers, live}
use Rattle.ov_catalog.specs.Events.{applied}
use Rattle.ov_catalog.specs.Numbers.{Numbers}
use Rattle.ov_catalog.specs.Raw.{event_in}
use Rattle.ov_catalog.specs.Sources.{IsApart}
use Rattle.law_snapshots.specs.Said.{snapshot_in}
use Rattle.ov_core.specs.declared.brought.Brought.{Brought}
use Rattle.ov_core.specs.declared.errors.ChangeErr.{ChangeErr}
use Rattle.ov_core.specs.declared.errors.ChangeErr.TheVariants as errors
use Rattle.ov_core.specs.Brought.{with_extents}
use Rattle.ov_core.specs.Held.{Held}

-- how many pages these bytes take
abbrev pub pages_for : List ℕ → ℕ
pages_for bytes = (length bytes + 4095) / 4096

-- so many pages from a first one on are below 2^22, and no extent covers one of them
pub record IsFree (live : List Extent) (n first : ℕ) : Type 0 where
  pub below : first + n ≤ 2 ^ 22
  pub off : (page : ℕ) → first ≤ page → page < first + n → covers live page ≡ 0

pub record IsLowest (live : List Extent) (n first : ℕ) : Type 0 where
  pub run : IsFree live n first
  pub few : n < 2 ^ 20
  pub lowest : (other : ℕ) → other < first → IsFree live n other → ⊥

-- no run is free, or it would have 2^20 pages or more
abbrev pub HasNone : List Extent → ℕ → Type 0
HasNone live n = (2 ^ 20 ≤ n) ⊎ ((first : ℕ) → IsFree live n first → ⊥)

-- the extent of these bytes' run
pub record IsRun (live : List Extent) (bytes : List ℕ) (e : Extent) : Type 0 where
  pub size : e.bytes ≡ length bytes
  pub empty : bytes ≡ [] → e.page ≡ 0
  pub lowest : 0 < length bytes → IsLowest live (pages_for bytes) e.page

pub record ArePlaced (live : List Extent) (list segment : List ℕ) (l s : Extent) : Type 0 where
  pub list_run : IsRun live list l
  pub segment_run : IsRun (l ∷ live) segment s

-- there are runs for both, where they are asked for one after the other
abbrev pub HaveRuns : List Extent → List ℕ → List ℕ → Type 0
HaveRuns live list segment = (l : Extent) × (s : Extent) × ArePlaced live list segment l s

pub record IsNoRun (live : List Extent) (bytes : List ℕ) (pages : ℕ) : Type 0 where
  pub some : 0 < length bytes
  pub none : HasNone live (pages_for bytes)
  pub pages_are : pages ≡ pages_for bytes

-- the list's run, which is asked for first, or the segment's
abbrev pub IsFull : List Extent → List ℕ → List ℕ → ℕ → Type 0
IsFull live list segment pages =
    IsNoRun live list pages ⊎ ((l : Extent) × IsRun live list l × IsNoRun (l ∷ live) segment pages)

-- the record and the closed gate behind it would pass 2^28 bytes
abbrev pub PassesEnd : journals.Numbers → raw.Event → Type 0
PassesEnd journal e = 2 ^ 28 < journal.end + 6 + length (spelling e)

abbrev pub PassesJournal : Held → raw.Event → Type 0
PassesJournal held e = PassesEnd held.journal e

-- Want of room in the pages comes before want of room in the journal.
abbrev pub IsWhy : ChangeErr → Held → Brought → State → State → Type 0
IsWhy errors.Host held b old new = Rose old.faults new.faults
IsWhy errors.Memory held b old new = Unit {0}
IsWhy (errors.Full pages) held b old new = IsFull (live held.numbers) b.list.items b.segment.items pages
IsWhy errors.JournalFull held b old new =
    HaveRuns (live held.numbers) b.list.items b.segment.items × PassesJournal held b.event

-- the change was made: the runs are placed, the journal had room, and the catalog applied the event
pub record IsMade (old new : Held) (b : Brought) : Type 0 where
  pub l : Extent
  pub s : Extent
  pub placed : ArePlaced (live old.numbers) b.list.items b.segment.items l s
  pub fits : PassesJournal old b.event → ⊥
  pub applied_is : new.numbers ≡ applied (event_in (with_extents l s b.event)) old.numbers

-- ---- an event that brings no run

-- it asks for none
abbrev pub IsWhyNotRecorded : ChangeErr → Held → raw.Event → State → State → Type 0
IsWhyNotRecorded errors.Host held e old new = Rose old.faults new.faults
IsWhyNotRecorded errors.Memory held e old new = Unit {0}
IsWhyNotRecorded (errors.Full pages) held e old new = ⊥
IsWhyNotRecorded errors.JournalFull held e old new = PassesJournal held e

-- it was added: the journal had room, nothing that stays was given up, and the catalog applied it
pub record IsRecorded (old new : Held) (e : raw.Event) : Type 0 where
  pub fits : PassesJournal old e → ⊥
  pub apart : IsApart e old.numbers
  pub applied_is : new.numbers ≡ applied (event_in e) old.numbers

-- a drop
abbrev pub IsWhyKept : ChangeErr → Held → ℕ → State → State → Type 0
IsWhyKept why held cvd old new = IsWhyNotRecorded why held (says.Drop cvd) old new

abbrev pub IsDropped : Held → Held → ℕ → Type 0
IsDropped old new cvd = IsRecorded old new (says.Drop cvd)

-- ---- a checkpoint

-- what a snapshot of these numbers writes
abbrev pub snapshot_payloads : Numbers Extent Extent → List (List ℕ)
snapshot_payloads n = map spelling (snapshot_in n)

abbrev pub HasNoPlace : Held → Type 0
HasNoPlace held = HasNoRoom held.journal (snapshot_payloads held.numbers)

-- it brings no run
abbrev pub IsWhyNotTaken : ChangeErr → Held → State → State → Type 0
IsWhyNotTaken errors.Host held old new = Rose old.faults new.faults
IsWhyNotTaken errors.Memory held old new = Unit {0}
IsWhyNotTaken (errors.Full pages) held old new = ⊥
IsWhyNotTaken errors.JournalFull held old new = HasNoPlace held

-- it was taken: there was a place, the journal goes on behind the snapshot, and the catalog stays
pub record IsTaken (old new : Held) : Type 0 where
  pub fits : HasNoPlace old → ⊥
  pub journal : new.journal ≡ turned_to old.journal (snapshot_payloads old.numbers)
  pub numbers : new.numbers ≡ old.numbers

-- the page area is as it could be left before
abbrev pub KeepsPages : Disk → Image → Type 0
KeepsPages d c = Leaves d.pages c.pages

-- why no snapshot was made: it would be longer than a journal, and so have no place
abbrev pub IsWhyNoSnapshot : journals.Numbers → List (List ℕ) → ChangeErr → Type 0
IsWhyNoSnapshot journal payloads errors.Host = ⊥
IsWhyNoSnapshot journal payloads errors.Memory = Unit {0}
IsWhyNoSnapshot journal payloads (errors.Full pages) = ⊥
IsWhyNoSnapshot journal payloads errors.JournalFull = HasNoRoom journal payloads

-- ---- in the parts of a change

-- why no run was reserved
abbrev pub IsWhyNoRun : List Extent → List ℕ → ChangeErr → Type 0
IsWhyNoRun live bytes errors.Host = ⊥
IsWhyNoRun live bytes errors.Memory = Unit {0}
IsWhyNoRun live bytes (errors.Full pages) = IsNoRun live bytes pages
IsWhyNoRun live bytes errors.JournalFull = ⊥

-- why the runs weren't
abbrev pub IsWhyNoRuns : List Extent → List ℕ → List ℕ → ChangeErr → Type 0
IsWhyNoRuns live list segment errors.Host = ⊥
IsWhyNoRuns live list segment errors.Memory = Unit {0}
IsWhyNoRuns live list segment (errors.Full pages) = IsFull live list segment pages
IsWhyNoRuns live list segment errors.JournalFull = ⊥

-- why the record of an event that applies isn't ready
abbrev pub IsWhyNotReady : journals.Numbers → raw.Event → ChangeErr → Type 0
IsWhyNotReady journal e errors.Host = ⊥
IsWhyNotReady journal e errors.Memory = Unit {0}
IsWhyNotReady journal e (errors.Full pages) = ⊥
IsWhyNotReady journal e errors.JournalFull = PassesEnd journal e

-- why it wasn't written
abbrev pub IsWhyNotWritten : journals.Numbers → raw.Event → State → State → ChangeErr → Type 0
IsWhyNotWritten journal e old new errors.Host = Rose old.faults new.faults
IsWhyNotWritten journal e old new errors.Memory = Unit {0}
IsWhyNotWritten journal e old new (errors.Full pages) = ⊥
IsWhyNotWritten journal e old new errors.JournalFull = PassesEnd journal e
