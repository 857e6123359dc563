-- What a store keeps in memory of its journal and of its datasets.
--     IsReplay format payloads n      in a journal of this format the payloads spell events that apply one after another, and these are
--         the numbers then
--     IsReplayed n      the numbers are those of events each of which applied
--     IsByJournal held s      the numbers are those of the journal that stands on the host
--     GoesOn held s      what a change asks of a host that tells its bytes, whatever they are
--     IsBeside held s      that, and the pages of the live extents stand whole
use Rattle.std.specs.Prelude.{◌≡◌, ◌≤◌, ◌<◌, ℕ, List, length, map}
use Rattle.std.specs.List.{AllByRecursion}
use Rattle.ov_host.specs.declared.area.Area.TheVariants.{Pages, Journal}
use Rattle.ov_host.specs.declared.area.Extent.{Extent}
use Rattle.ov_host.specs.Host.{State, bytes_of}
use Rattle.ov_event.specs.declared.event.Event.{Event}
use Rattle.ov_event.specs.Spelling.{IsEvent, spelling}
use Rattle.ov_journal.specs.Held as journals
use Rattle.ov_journal.specs.Held.{IsAt}
use Rattle.ov_catalog.specs.Applying.{AllFollow, start_of}
use Rattle.ov_catalog.specs.Extents.{covers, live}
use Rattle.ov_catalog.specs.Numbers.{Numbers, nothing_yet}
use Rattle.ov_catalog.specs.Raw.{numbers_in}
use Rattle.law_image.specs.Pages.{pages_in}

pub record Held : Type 0 where
  pub journal : journals.Numbers
  pub numbers : Numbers Extent Extent

pub record IsReplay (format : ℕ) (payloads : List (List ℕ)) (n : Numbers Extent Extent) : Type 0 where
  pub events : List Event
  pub are : AllByRecursion IsEvent events
  pub written : payloads ≡ map spelling events
  pub follow : AllFollow (start_of format) events nothing_yet
  pub end : n ≡ numbers_in events

pub record IsReplayed (n : Numbers Extent Extent) : Type 0 where
  pub format : ℕ
  pub events : List Event
  pub follow : AllFollow (start_of format) events nothing_yet
  pub are : n ≡ numbers_in events

-- the journal stands on the host as the store keeps it, nothing of it is pending, and its payloads replay to the store's numbers
pub record IsByJournal (held : Held) (s : State) : Type 0 where
  pub payloads : List (List ℕ)
  pub at : IsAt payloads held.journal s
  pub replays : IsReplay held.journal.format payloads held.numbers

-- the journal goes on behind its first closed gate
abbrev pub GoesOn : Held → State → Type 0
GoesOn held s = held.journal.end < length (bytes_of Journal s)

-- the journal goes on behind its first closed gate, and the pages of the live extents stand whole
pub record IsBeside (held : Held) (s : State) : Type 0 where
  pub journal : held.journal.end < length (bytes_of Journal s)
  pub pages : (page : ℕ) → 1 ≤ covers (live held.numbers) page → page < pages_in (bytes_of Pages s)
