-- What a layout keeps: its partitions, their index and sums, and room.
use Rattle.std.specs.Prelude.{◌≡◌, ℕ, ◌^◌, ◌<◌, true, max, List, length, All, Vec, vec_capacity}
use Rattle.ov_layout.specs.declared.index.Entry.{Entry}
use Rattle.ov_layout.specs.declared.part.Part.{Part}
use Rattle.ov_layout.specs.declared.room.Room.{Room}
use Rattle.ov_layout.specs.declared.room.Room.TheVariants.{Nothing, Placing, Joining}
use Rattle.ov_layout.specs.declared.spares.Spares.{Spares}
use Rattle.std.specs.declared.alloc.Global.{Global}
use Rattle.ov_layout.specs.Parts.{AreParts, is_number, stored_of, cost_of}
use Rattle.ov_layout.specs.Index.{IsIndex}
use Rattle.ov_layout.specs.Spares.{AreEmpty, HaveRoom, FitsNumbered}

abbrev pub HasFewRecords : Part → Type 0
HasFewRecords part = part.records < 2 ^ 32

-- the partitions are sound, the index is theirs, and the numbers are their sums
pub record AreNumbers (index : List Entry) (parts : List Part) (next stored cost : ℕ) : Type 0 where
  pub sound : AreParts parts next
  pub index_is : IsIndex index parts
  pub few : All HasFewRecords parts
  pub stored_is : stored ≡ stored_of parts
  pub cost_is : cost ≡ cost_of parts

-- what a change that there is room for finds ready: where the room is for a join, the partition is there
abbrev pub IsReady : Room → Vec Part Global → Spares → Spares → Type 0
IsReady Nothing parts fresh spare = Unit {0}
IsReady (Placing versions) parts fresh spare =
    (length parts.items < vec_capacity parts) × HaveRoom 1 (max 1 versions) 1 fresh
IsReady (Joining id) parts fresh spare = (is_number parts.items id ≡ true) × All (FitsNumbered spare id) parts.items

abbrev pub NeedsEntry : Room → Vec Entry Global → Type 0
NeedsEntry Nothing index = Unit {0}
NeedsEntry (Placing versions) index = length index.items < vec_capacity index
NeedsEntry (Joining id) index = length index.items < vec_capacity index

-- there is the room that the layout says, and the spare lists are empty
pub record HasSpace (room : Room) (parts : Vec Part Global) (index : Vec Entry Global) (fresh spare : Spares) : Type 0 where
  pub ready : IsReady room parts fresh spare
  pub entry : NeedsEntry room index
  pub fresh_empty : AreEmpty fresh
  pub spare_empty : AreEmpty spare
