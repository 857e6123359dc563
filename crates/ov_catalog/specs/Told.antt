-- What tells a World by its numbers, whatever moves made it, those that add columns among them.
--     IsTold w      what holds of it
--     BringsRows m w      what is asked of the rows and columns that a move brings
use Rattle.std.specs.Prelude.{◌≡◌, ℕ, List, [], ◌∷◌, Ok}
use Rattle.std.specs.List.{All}
use Rattle.ov_value.specs.Making.{widened}
use Rattle.ov_value.specs.Rows.{key_cmp}
use Rattle.ov_value.specs.Shapes.{Shape}
use Rattle.ov_value.specs.Spelling.{IsRow}
use Rattle.ov_value.specs.declared.column.Column.{Column}
use Rattle.ov_model.specs.Book.{Row, Version}
use Rattle.ov_model.specs.Holding.{AreHeld}
use Rattle.ov_model.specs.Lists.{Rises}
use Rattle.ov_model.specs.Moves.{Move, Init, Commit, wide, wide_schema}
use Rattle.ov_model.specs.Ordered.{HaveOrder}
use Rattle.ov_model.specs.Placed.{ArePlaced}
use Rattle.ov_model.specs.World.{Dataset, World}

-- rows of a schema, in key order, no key twice
abbrev pub AreOfSchema : Shape → List Row → Type 0
AreOfSchema schema rows = Rises (key_cmp schema) rows × All (IsRow schema) rows

abbrev pub HaveRows : Shape → List Version → Type 0
HaveRows schema [] = Unit {0}
HaveRows schema (v ∷ vs) = AreOfSchema schema v.rows × HaveRows schema vs

-- the rows of a dataset's versions are rows of its schema, in key order
pub record IsRowed (d : Dataset) : Type 0 where
  pub rows : HaveRows d.cvd.schema d.cvd.versions

abbrev pub AreRowed : List Dataset → Type 0
AreRowed [] = Unit {0}
AreRowed (d ∷ sets) = IsRowed d × AreRowed sets

-- each version is in one partition, which has all its records; pieces have theirs in the order of rids; and rows are rows of
-- their schema
pub record IsTold (w : World) : Type 0 where
  pub placed : ArePlaced w.sets
  pub held : AreHeld w.sets
  pub ordered : HaveOrder w.sets
  pub rowed : AreRowed w.sets

-- columns that are added make a schema; none is no change
abbrev pub AreAccepted : Shape → List Column → Type 0
AreAccepted schema [] = Unit {0}
AreAccepted schema (column ∷ added) = widened schema (column ∷ added) ≡ Ok (wide_schema schema (column ∷ added))

-- of a commit to this dataset
pub record BringsTo (d : Dataset) (added : List Column) (rows : List Row) : Type 0 where
  pub accepted : AreAccepted d.cvd.schema added
  pub fit : AreOfSchema (wide added d).cvd.schema rows

abbrev pub AllBringTo : ℕ → List Column → List Row → List Dataset → Type 0
AllBringTo cvd added rows [] = Unit {0}
AllBringTo cvd added rows (d ∷ sets) = (d.cvd.number ≡ cvd → BringsTo d added rows) × AllBringTo cvd added rows sets

abbrev pub BringsRows : Move → World → Type 0
BringsRows (Init name schema rows) w = AreOfSchema schema rows
BringsRows (Commit cvd parents message added rows) w = AllBringTo cvd added rows w.sets
BringsRows _ w = Unit {0}
