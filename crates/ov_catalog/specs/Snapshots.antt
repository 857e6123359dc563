-- The events of a checkpoint.
--     events_of n      the events that give these numbers, on numbers or none
--     IsSnapshot events n      a half begins with them: they say the numbers, with the same extents
--     bare e      an event without what fills its holes
use Rattle.std.specs.Prelude.{◌≡◌, List, ◌∷◌, map}
use Rattle.ov_event.specs.declared.event.Event as raw
use Rattle.ov_host.specs.declared.area.Extent.{Extent}
use Rattle.ov_model.specs.World.{World}
use Rattle.ov_catalog.specs.Events.{Event, Base, Whole, each_event}
use Rattle.ov_catalog.specs.Numbers.{Numbers}
use Rattle.ov_catalog.specs.Raw.{event_in}
use Rattle.ov_catalog.specs.Shown.{snapshot_of}

-- the next dataset's number, and then each dataset as it stands
abbrev pub events_of : {L S : Type 0} → Numbers L S → List (Event L S)
events_of n = Base n.next ∷ map (λ d. Whole d) n.sets

abbrev pub IsSnapshot : List raw.Event → Numbers Extent Extent → Type 0
IsSnapshot events n = map event_in events ≡ events_of n

abbrev pub bare : {L S : Type 0} → Event L S → Event (Unit {0}) (Unit {0})
bare e = each_event (λ list. tt) (λ segment. tt) e

-- The events of a World's snapshot, wherever its extents lie. They don't change how long an event is.
pub record Snapshot (w : World) : Type 0 where
  pub events : List raw.Event
  pub says : map (λ e. bare (event_in e)) events ≡ map bare (snapshot_of w)
