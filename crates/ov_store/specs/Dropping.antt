-- What `drop_cvd` does.
--     number_named n name      the number of the dataset of this name
--     dropped name w      the World without that dataset; as it is where there is none
use Rattle.std.specs.Prelude.{◌≡◌, ℕ, List, Option, Some, None, find, option_map}
use Rattle.ov_host.specs.Host.{Rose, State}
use Rattle.ov_event.specs.declared.event.Event.TheVariants as says
use Rattle.ov_model.specs.Moves.{Drop, moved}
use Rattle.ov_model.specs.World.{Dataset, World, set_named}
use Rattle.ov_catalog.specs.Applying.{is_named}
use Rattle.ov_catalog.specs.Events.{applied}
use Rattle.ov_catalog.specs.Numbers.{Numbers}
use Rattle.ov_catalog.specs.Raw.{event_in}
use Rattle.ov_core.specs.Held.{Held}
use Rattle.ov_core.specs.Rooms.{PassesJournal}
use Rattle.ov_store.specs.declared.errors.StoreErr.{StoreErr}
use Rattle.ov_store.specs.declared.errors.StoreErr.TheVariants as why

abbrev pub number_named : {L S : Type 0} → Numbers L S → List ℕ → Option ℕ
number_named n name = option_map (λ d. d.number) (find (is_named name) n.sets)

abbrev pub without : Option Dataset → World → World
without None w = w
without (Some d) w = moved (Drop d.cvd.number) w

abbrev pub dropped : List ℕ → World → World
dropped name w = without (set_named w name) w

-- the dataset went: it was there, and the journal had room
pub record IsDropped (name : List ℕ) (old new : Held) : Type 0 where
  pub cvd : ℕ
  pub named : number_named old.numbers name ≡ Some cvd
  pub fits : PassesJournal old (says.Drop cvd) → ⊥
  pub gone : new.numbers ≡ applied (event_in (says.Drop cvd)) old.numbers

pub record HasNoDrop (name : List ℕ) (held : Held) : Type 0 where
  pub cvd : ℕ
  pub named : number_named held.numbers name ≡ Some cvd
  pub passes : PassesJournal held (says.Drop cvd)

-- why it isn't dropped
abbrev pub IsKept : List ℕ → Held → State → State → StoreErr → Type 0
IsKept name held old new why.Host = Rose old.faults new.faults
IsKept name held old new why.Memory = Unit {0}
IsKept name held old new why.NoCvd = number_named held.numbers name ≡ None
IsKept name held old new why.JournalFull = HasNoDrop name held
IsKept name held old new _ = ⊥
