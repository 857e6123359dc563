-- Why nothing is brought.
--     IsUnready off b why      for want of memory, as `off` says, or since the segment is too long for any run
--     AsksTooMuch m w list_pages segment_pages      what the World asks of a move takes so many pages
use Rattle.std.specs.Prelude.{◌≡◌, ◌<◌, ◌≤◌, ◌^◌, ℕ, List, Option, Some, None}
use Rattle.ov_host.specs.declared.area.Extent.{Extent}
use Rattle.ov_version_bytes.specs.Written.{IsLong}
use Rattle.ov_core.specs.Rooms.{IsFull}
use Rattle.ov_model.specs.Moves.{Move}
use Rattle.ov_model.specs.World.{World}
use Rattle.law_room.specs.Room.{Writes}
use Rattle.ov_store.specs.declared.errors.StoreErr.{StoreErr}
use Rattle.ov_store.specs.declared.errors.StoreErr.TheVariants as why
use Rattle.ov_store.specs.declared.unready.Unready.{Unready}
use Rattle.ov_store.specs.declared.unready.Unready.TheVariants.{Off, TooLong}
use Rattle.ov_store.specs.Changes.{Bringing}

abbrev pub IsRefused : Option StoreErr → StoreErr → Type 0
IsRefused off why.Host = ⊥
IsRefused off why.Memory = Unit {0}
IsRefused off (why.Damaged area at) = ⊥
IsRefused off (why.Full pages) = ⊥
IsRefused off why.JournalFull = ⊥
IsRefused off other = off ≡ Some other

abbrev pub IsUnready : Option StoreErr → Bringing → Unready → Type 0
IsUnready off b (Off refusal) = IsRefused off refusal
IsUnready off b (TooLong list_pages segment_pages) =
    (off ≡ None) × IsLong list_pages segment_pages b.list b.segment × (list_pages < 2 ^ 20)

-- where the segment is too long, the list has fewer than 2^20 pages
abbrev pub IsFewPages : Unready → Type 0
IsFewPages (Off refusal) = Unit {0}
IsFewPages (TooLong list_pages segment_pages) = (list_pages < 2 ^ 20) × (2 ^ 20 ≤ segment_pages)

-- no run for one of both, or no memory to find out
abbrev pub IsNoRoom : List Extent → List ℕ → List ℕ → StoreErr → Type 0
IsNoRoom live list segment why.Memory = Unit {0}
IsNoRoom live list segment (why.Full pages) = IsFull live list segment pages
IsNoRoom live list segment _ = ⊥

pub record AsksTooMuch (m : Move) (w : World) (list_pages segment_pages : ℕ) : Type 0 where
  pub written : Writes m w
  pub long : IsLong list_pages segment_pages written.list written.segment

-- where it is too long, the World asks for it
abbrev pub IfTooLong : Move → World → Unready → Type 0
IfTooLong m w (Off refusal) = Unit {0}
IfTooLong m w (TooLong list_pages segment_pages) = AsksTooMuch m w list_pages segment_pages
