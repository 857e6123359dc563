-- Room for the moves of a run, by what the store had at the run's entry: when a move may be refused for want of it.
--     Writes m w      what a move of the World writes: its event, its list and its segment
--     Takes m w pages size      so many pages and bytes of payloads are what a move writes; a checkpoint writes a snapshot
--     Take before pages bytes      so many pages and bytes of records are what these moves write
--     AllFit before      each of them fits the World before it
--     LacksRun entry before m w pages      a run of so many pages may be refused to the move, after these
--     LacksRecord entry before m w      a record may be refused to it
--     IsWithin entry before held      what a store keeps has grown by no more than these moves write, and its epoch by the checkpoints
use Rattle.std.specs.Prelude.{◌≡◌, ◌≤◌, ◌<◌, ◌⊎◌, ◌+◌, ◌-◌, ◌^◌, ℕ, Bool, true, false, if◌then◌else◌, List, [], ◌∷◌, length, map, Some}
use Rattle.ov_event.specs.declared.event.Event as raw
use Rattle.ov_event.specs.declared.event.Event.TheVariants as says
use Rattle.ov_event.specs.Spelling.{spelling}
use Rattle.ov_journal.specs.Snapshots.{size_of}
use Rattle.ov_model.specs.Moves.{Move, Init, Commit, BeginPlan, Copy, Flip, Drop, Checkpoint}
use Rattle.ov_model.specs.World.{World}
use Rattle.ov_catalog.specs.Extents.{covers, live}
use Rattle.ov_catalog.specs.Raw.{event_in}
use Rattle.ov_catalog.specs.Reached.{Fits}
use Rattle.ov_catalog.specs.Snapshots.{Snapshot}
use Rattle.ov_catalog.specs.Stands.{asked_event}
use Rattle.ov_core.specs.Brought.{content, extent_at, with_extents}
use Rattle.ov_core.specs.Held.{Held}
use Rattle.ov_core.specs.Rooms.{pages_for}

-- One past the highest page of a live extent, the place of the journal's first closed gate, and its epoch.
pub record Entry : Type 0 where
  pub pages : ℕ
  pub end : ℕ
  pub epoch : ℕ

-- A move that took place, and the World before it.
pub record Made : Type 0 where
  pub move : Move
  pub world : World

-- The runs of a move's event: an Init, a Commit and a Wide bring a list and a segment, a Copy a segment alone, a Plan, a Flip and a
-- Drop neither. No move has a Base or a Whole as its event.
abbrev pub HasRuns : raw.Event → List ℕ → List ℕ → Type 0
HasRuns (says.Init name schema rows l s) list segment = Unit {0}
HasRuns (says.Commit cvd vid message parents rows fresh place added l s) list segment = Unit {0}
HasRuns (says.Plan cvd p q targets) list segment = (list ≡ []) × (segment ≡ [])
HasRuns (says.Copy cvd count s) list segment = list ≡ []
HasRuns (says.Flip cvd) list segment = (list ≡ []) × (segment ≡ [])
HasRuns (says.Drop cvd) list segment = (list ≡ []) × (segment ≡ [])
HasRuns (says.Base next) list segment = ⊥
HasRuns (says.Whole said) list segment = ⊥
HasRuns (says.Wide cvd vid message columns parents rows fresh place added l s) list segment = Unit {0}

-- An event, a list and a segment that say what the World asks of the move. The places of both on the disk are left open; they
-- don't change how long the event is.
pub record Writes (m : Move) (w : World) : Type 0 where
  pub event : raw.Event
  pub list : List ℕ
  pub segment : List ℕ
  pub says : Some (content (event_in event) list segment) ≡ asked_event m w
  pub sized : with_extents (extent_at 0 list) (extent_at 0 segment) event ≡ event
  pub runs : HasRuns event list segment

pub record TakesEvent (m : Move) (w : World) (pages size : ℕ) : Type 0 where
  pub writes : Writes m w
  pub pages_are : pages ≡ pages_for writes.list + pages_for writes.segment
  pub size_is : size ≡ length (spelling writes.event)

-- a checkpoint writes no page, and its size is that of the snapshot's records with the closed gate behind them
pub record TakesSnapshot (m : Move) (w : World) (pages size : ℕ) : Type 0 where
  pub checkpoint : m ≡ Checkpoint
  pub writes : Snapshot w
  pub pages_are : pages ≡ 0
  pub size_is : size ≡ size_of (map spelling writes.events)

abbrev pub Takes : Move → World → ℕ → ℕ → Type 0
Takes m w pages size = TakesEvent m w pages size ⊎ TakesSnapshot m w pages size

-- so many pages and bytes of records are what these moves write, one after another
abbrev pub Take : List Made → ℕ → ℕ → Type 0
Take [] pages bytes = (pages ≡ 0) × (bytes ≡ 0)
Take (made ∷ more) pages bytes =
    (own : ℕ) × (size : ℕ) × (pages_more : ℕ) × (bytes_more : ℕ) × Takes made.move made.world own size × Take more pages_more bytes_more
    × (pages ≡ own + pages_more) × (bytes ≡ 6 + size + bytes_more)

abbrev pub is_checkpoint : Move → Bool
is_checkpoint (Init name schema rows) = false
is_checkpoint (Commit cvd parents message added rows) = false
is_checkpoint (BeginPlan cvd p q) = false
is_checkpoint (Copy cvd) = false
is_checkpoint (Flip cvd) = false
is_checkpoint (Drop cvd) = false
is_checkpoint Checkpoint = true

-- how many of these moves are checkpoints
abbrev pub checkpoints : List Made → ℕ
checkpoints [] = 0
checkpoints (made ∷ more) = (if is_checkpoint made.move then 1 else 0) + checkpoints more

-- each of them fits the World before it
abbrev pub AllFit : List Made → Type 0
AllFit [] = Unit {0}
AllFit (made ∷ more) = Fits made.move made.world × AllFit more

-- The run is the list's or the segment's. It has 2^20 pages or more, or both would pass page 2^22 behind the highest page at
-- the entry and all pages that the moves before took.
pub record LacksRun (entry : Entry) (before : List Made) (m : Move) (w : World) (run : ℕ) : Type 0 where
  pub writes : Writes m w
  pub pages : ℕ
  pub bytes : ℕ
  pub taken : Take before pages bytes
  pub some : 0 < run
  pub which : (run ≡ pages_for writes.list) ⊎ (run ≡ pages_for writes.segment)
  pub lacks : (2 ^ 20 ≤ run) ⊎ (2 ^ 22 < entry.pages + pages + (pages_for writes.list + pages_for writes.segment))

-- a checkpoint in the last epoch
abbrev pub IsLastEpoch : Entry → List Made → Move → Type 0
IsLastEpoch entry before m = (m ≡ Checkpoint) × (entry.epoch + checkpoints before ≡ 2 ^ 32 - 1)

-- The record and the closed gate behind it would pass 2^28 bytes, behind the gate at the entry and all records of the moves
-- before; or there is no later epoch.
pub record LacksRecord (entry : Entry) (before : List Made) (m : Move) (w : World) : Type 0 where
  pub own : ℕ
  pub size : ℕ
  pub takes : Takes m w own size
  pub pages : ℕ
  pub bytes : ℕ
  pub taken : Take before pages bytes
  pub lacks : (2 ^ 28 < entry.end + bytes + (6 + size)) ⊎ IsLastEpoch entry before m

pub record IsWithin (entry : Entry) (before : List Made) (held : Held) : Type 0 where
  pub pages : ℕ
  pub bytes : ℕ
  pub taken : Take before pages bytes
  pub below : (page : ℕ) → 1 ≤ covers (live held.numbers) page → page < entry.pages + pages
  pub within : held.journal.end ≤ entry.end + bytes
  pub epoch : held.journal.epoch ≡ entry.epoch + checkpoints before
