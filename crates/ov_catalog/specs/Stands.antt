-- What events, with what is read of their lists and segments, stand for.
--     StandsFor format events r w      in a store of this format number they stand for the World, which moves reach
--     IsMove format e m w n r      one more event, which is that of a move of the World
use Rattle.std.specs.Prelude.{◌≡◌, ◌≤◌, ◌<◌, ◌+◌, ℕ, List, Option, Some, None}
use Rattle.std.specs.Option.{option_map}
use Rattle.ov_host.specs.declared.area.Extent.{Extent}
use Rattle.ov_model.specs.Lists.{IsIn}
use Rattle.ov_model.specs.Moves.{Move}
use Rattle.ov_model.specs.World.{World}
use Rattle.ov_event.specs.declared.event.Event as raw
use Rattle.ov_catalog.specs.Numbers.{Numbers, each, nothing_yet}
use Rattle.ov_catalog.specs.Events.{Event, each_event}
use Rattle.ov_catalog.specs.Applying.{AllFollow, first_off, start_of}
use Rattle.ov_catalog.specs.Extents.{AreApart, brought, covers, live}
use Rattle.ov_catalog.specs.Raw.{event_in, numbers_in}
use Rattle.ov_catalog.specs.Reached.{Fits, Reached}
use Rattle.ov_catalog.specs.Shown.{Rids, Records, shown, event_of}

-- What the extents have, as read: the rids of a list, the records of a segment; None where the bytes spell none. And how many
-- pages there are to read.
pub record Readings : Type 0 where
  pub list : Extent → Option Rids
  pub segment : Extent → Option Records
  pub pages : ℕ

-- numbers and events with what is read in their holes, and as a World has it
abbrev pub seen : Readings → Numbers Extent Extent → Numbers (Option Rids) (Option Records)
seen r n = each r.list r.segment n

abbrev pub asked : World → Numbers (Option Rids) (Option Records)
asked w = each Some Some (shown w)

abbrev pub seen_event : Readings → raw.Event → Event (Option Rids) (Option Records)
seen_event r e = each_event r.list r.segment (event_in e)

-- an event as a World has it, and the one that it asks of a move, where there is one
abbrev pub asked_as : Event Rids Records → Event (Option Rids) (Option Records)
asked_as e = each_event Some Some e

abbrev pub asked_event : Move → World → Option (Event (Option Rids) (Option Records))
asked_event m w = option_map asked_as (event_of m w)

pub record StandsFor (format : ℕ) (events : List raw.Event) (r : Readings) (w : World) : Type 0 where
  pub reached : Reached w
  pub follow : AllFollow (start_of format) events nothing_yet
  pub shows : seen r (numbers_in events) ≡ asked w
  pub apart : AreApart (live (numbers_in events)) r.pages

-- on these extents both read the same
pub record ReadSame (es : List Extent) (old new : Readings) : Type 0 where
  pub lists : (e : Extent) → IsIn es e → new.list e ≡ old.list e
  pub segments : (e : Extent) → IsIn es e → new.segment e ≡ old.segment e
  pub there : (page : ℕ) → 1 ≤ covers es page → page < new.pages

-- the event of a move that fits, whose new extents lie off the live ones and off each other and have what the World asks for
pub record IsMove (format : ℕ) (e : raw.Event) (m : Move) (w : World) (n : Numbers Extent Extent) (r : Readings) : Type 0 where
  pub fits : Fits m w
  pub applies : first_off format e n ≡ None
  pub spells : Some (seen_event r e) ≡ asked_event m w
  pub apart : (page : ℕ) → covers (brought (event_in e)) page + covers (live n) page ≤ 1
  pub inside : (page : ℕ) → 1 ≤ covers (brought (event_in e)) page → page < r.pages
