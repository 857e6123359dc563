-- A store at a World on a host.
--     IsAtWorld w held s      the host tells its bytes, nothing is pending, and they stand for the World by what the store keeps
--     IsAtNext w held old new      it is at the World after a call that printed nothing
--     IsEither w v printed c      an image stands for one of two Worlds
use Rattle.std.specs.Prelude.{◌≡◌, ◌⊎◌, ℕ, List}
use Rattle.ov_host.specs.Disk.{Image, as_read}
use Rattle.ov_host.specs.Host.{State}
use Rattle.ov_event.specs.declared.event.Event.{Event}
use Rattle.ov_journal.specs.Held.{IsAt, kept_by}
use Rattle.ov_publish.specs.Puts.{PagesAtRest}
use Rattle.ov_model.specs.World.{World}
use Rattle.ov_catalog.specs.Raw.{numbers_in}
use Rattle.law_image.specs.Images.{StandsAs, StandsBy}
use Rattle.ov_core.specs.Held.{Held}

pub record IsAtWorld (w : World) (held : Held) (s : State) : Type 0 where
  pub payloads : List (List ℕ)
  pub events : List Event
  pub at : IsAt payloads held.journal s
  pub rest : PagesAtRest s
  pub stands : StandsBy (kept_by held.journal payloads) events w (as_read s.tape.disk)
  pub numbers_are : held.numbers ≡ numbers_in events

pub record IsAtNext (w : World) (held : Held) (old new : State) : Type 0 where
  pub at : IsAtWorld w held new
  pub printed_same : new.tape.disk.printed ≡ old.tape.disk.printed

-- one World or the other, with this output
pub record IsEither (w v : World) (printed : List ℕ) (c : Image) : Type 0 where
  pub stands : StandsAs w c ⊎ StandsAs v c
  pub printed_is : c.printed ≡ printed
