-- What a call that changes the store does, and why it doesn't.
--     Bringing      an event that isn't placed yet, and the bytes of its list and of its segment
--     IsDone b old new      the change was made
--     IsWhy off b held old new why      why it wasn't, where `off` is refused by numbers
use Rattle.std.specs.Prelude.{◌≡◌, ℕ, List, Option, Some, None}
use Rattle.ov_host.specs.Host.{Rose, State}
use Rattle.ov_host.specs.declared.area.Extent.{Extent}
use Rattle.ov_event.specs.declared.event.Event as raw
use Rattle.ov_event.specs.Spelling.{IsEvent}
use Rattle.ov_catalog.specs.Applying.{first_off}
use Rattle.ov_catalog.specs.Events.{applied}
use Rattle.ov_catalog.specs.Extents.{live}
use Rattle.ov_catalog.specs.Raw.{event_in}
use Rattle.ov_core.specs.declared.brought.Brought.{Brought}
use Rattle.ov_core.specs.Brought.{IsUnplaced, with_extents}
use Rattle.ov_core.specs.Held.{Held}
use Rattle.ov_core.specs.Rooms.{ArePlaced, HaveRuns, IsFull, PassesJournal}
use Rattle.ov_store.specs.declared.errors.StoreErr.{StoreErr}
use Rattle.ov_store.specs.declared.errors.StoreErr.TheVariants as why

pub record Bringing : Type 0 where
  pub event : raw.Event
  pub list : List ℕ
  pub segment : List ℕ

abbrev pub bringing_of : Brought → Bringing
bringing_of b = record { event = b.event; list = b.list.items; segment = b.segment.items }

-- the runs are at these extents, each the lowest that was free; the journal had room; and the catalog has applied the event
pub record IsDone (b : Bringing) (old new : Held) : Type 0 where
  pub l : Extent
  pub s : Extent
  pub placed : ArePlaced (live old.numbers) b.list b.segment l s
  pub fits : PassesJournal old b.event → ⊥
  pub applied_is : new.numbers ≡ applied (event_in (with_extents l s b.event)) old.numbers

-- what was brought can be written, and follows the catalog
pub record IsReady (b : Brought) (held : Held) : Type 0 where
  pub unplaced : IsUnplaced b
  pub event : IsEvent b.event
  pub applies : first_off held.journal.format b.event held.numbers ≡ None

-- Refusals by numbers come first, then those for want of room: of pages, and only then of the journal.
abbrev pub IsWhy : Option StoreErr → Bringing → Held → State → State → StoreErr → Type 0
IsWhy off b held old new why.Host = Rose old.faults new.faults
IsWhy off b held old new why.Memory = Unit {0}
IsWhy off b held old new (why.Full pages) = (off ≡ None) × IsFull (live held.numbers) b.list b.segment pages
IsWhy off b held old new why.JournalFull = (off ≡ None) × HaveRuns (live held.numbers) b.list b.segment × PassesJournal held b.event
IsWhy off b held old new other = off ≡ Some other

-- why what was brought isn't stored
abbrev pub IsUnstored : Held → Bringing → State → State → StoreErr → Type 0
IsUnstored held b old new why.Host = Rose old.faults new.faults
IsUnstored held b old new why.Memory = Unit {0}
IsUnstored held b old new (why.Full pages) = IsFull (live held.numbers) b.list b.segment pages
IsUnstored held b old new why.JournalFull = HaveRuns (live held.numbers) b.list b.segment × PassesJournal held b.event
IsUnstored held b old new _ = ⊥
