-- What an image of the disk stands for.
--     StandsBy kept events w c      by this journal and the events that its payloads spell, the World
--     StandsAs w c      the World, by some journal; or the empty one, where no journal was made
--
-- The Worlds are those that `Reached` has: from the empty World of format 1 or 2, whose epoch is 1, by all moves. A checkpoint makes
-- the epoch one more, and the format number 2; one that an earlier program took in a store of format 1 left that number. Columns are
-- added in format 2 alone: so its event doesn't apply in a journal of format 1.
use Rattle.std.specs.Prelude.{◌≡◌, ◌⊎◌, ℕ, List, [], length, map}
use Rattle.std.specs.List.{AllByRecursion}
use Rattle.ov_host.specs.Disk.{Image}
use Rattle.ov_event.specs.declared.event.Event.{Event}
use Rattle.ov_event.specs.Spelling.{IsEvent, spelling}
use Rattle.ov_journal.specs.Journal.{Kept, IsJournal, IsUnmade}
use Rattle.ov_model.specs.World.{World, empty_world}
use Rattle.ov_catalog.specs.Stands.{StandsFor}
use Rattle.law_image.specs.Pages.{readings_of}

-- the payloads spell these events, one by one
pub record Spell (events : List Event) (payloads : List (List ℕ)) : Type 0 where
  pub are : AllByRecursion IsEvent events
  pub written : payloads ≡ map spelling events

-- Of the World the datasets and the next number are those of the events with what is read of the pages; the epoch, the format
-- number and the number of records are the journal's.
pub record StandsBy (kept : Kept) (events : List Event) (w : World) (c : Image) : Type 0 where
  pub journal : IsJournal kept c.journal
  pub spell : Spell events kept.payloads
  pub stands : StandsFor kept.format events (readings_of c.pages) w
  pub epoch : w.epoch ≡ kept.epoch
  pub format : w.format ≡ kept.format
  pub records : w.records ≡ length kept.payloads

pub record IsMade (w : World) (c : Image) : Type 0 where
  pub kept : Kept
  pub events : List Event
  pub by : StandsBy kept events w c

pub record IsNew (w : World) (c : Image) : Type 0 where
  pub journal : IsUnmade c.journal
  pub pages : c.pages ≡ []
  pub world : w ≡ empty_world

abbrev pub StandsAs : World → Image → Type 0
StandsAs w c = IsNew w c ⊎ IsMade w c

-- a journal with the same epoch, format number and payloads, wherever its records stand
pub record SaysSame (old new : Kept) : Type 0 where
  pub epoch : new.epoch ≡ old.epoch
  pub format : new.format ≡ old.format
  pub payloads : new.payloads ≡ old.payloads
