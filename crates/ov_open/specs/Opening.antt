-- What opening a store gives, and what a stop in it leaves.
--     IsOpened d held s      of a disk that was d
--     IsOutside why      no bytes are the cause
--     IsWorld w printed c      an image stands for the World, with this output
use Rattle.std.specs.Prelude.{◌≡◌, ◌⊎◌, ℕ, List}
use Rattle.ov_host.specs.Disk.{Disk, Image}
use Rattle.ov_host.specs.Host.{State}
use Rattle.ov_journal.specs.Held.{IsAt}
use Rattle.ov_journal.specs.Opened.{HasStood, IsMade, ArePagesSettled}
use Rattle.ov_model.specs.World.{World}
use Rattle.ov_catalog.specs.Extents.{AreApart, live}
use Rattle.law_image.specs.Images.{StandsAs}
use Rattle.law_image.specs.Pages.{pages_in}
use Rattle.ov_core.specs.Held.{Held, IsReplay}
use Rattle.ov_open.specs.declared.errors.OpenErr.{OpenErr}
use Rattle.ov_open.specs.declared.errors.OpenErr.TheVariants as errors

-- The journal stood there, or was made in an empty store. Its payloads replay to the catalog, whose live extents share no page
-- and stand whole. Nothing is pending.
pub record IsOpened (d : Disk) (held : Held) (s : State) : Type 0 where
  pub payloads : List (List ℕ)
  pub journal : HasStood d s.tape.disk held.journal payloads ⊎ IsMade d held.journal payloads
  pub at : IsAt payloads held.journal s
  pub settled : ArePagesSettled d s.tape.disk
  pub replays : IsReplay held.journal.format payloads held.numbers
  pub apart : AreApart (live held.numbers) (pages_in d.pages.bytes)

abbrev pub IsOutside : OpenErr → Type 0
IsOutside errors.Host = Unit {0}
IsOutside errors.Memory = Unit {0}
IsOutside _ = ⊥

pub record IsWorld (w : World) (printed : List ℕ) (c : Image) : Type 0 where
  pub stands : StandsAs w c
  pub printed_is : c.printed ≡ printed
