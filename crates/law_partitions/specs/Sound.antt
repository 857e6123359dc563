-- What holds in every World that moves reach.
--     IsSound w      what the laws of this crate say of a World, together
--     MayMove m w      what is asked of a move, so that it stays so
--     AllMay moves w      of each of these, one after another
use Rattle.std.specs.Prelude.{◌≢◌, ℕ, List, [], ◌∷◌}
use Rattle.ov_model.specs.Forms.{Form}
use Rattle.ov_model.specs.Holding.{AreHeld, MayFlip}
use Rattle.ov_model.specs.Line.{Line, Asks, line_of}
use Rattle.ov_model.specs.Moves.{Move, moved}
use Rattle.ov_model.specs.Ordered.{HaveOrder}
use Rattle.ov_model.specs.Placed.{ArePlaced, NamesParents}
use Rattle.ov_model.specs.World.{World, AllBegun}
use Rattle.ov_model.specs.declared.command.Command.{Command}
use Rattle.ov_model.specs.declared.command.Command.TheVariants as asks
use Rattle.law_partitions.specs.Countdown.{AllRun, AreNumbered}
use Rattle.law_partitions.specs.Pieces.{ArePieces, MayCopy, RowsRise}

-- numbers of datasets are given once, each dataset has a version, a running plan has a target left, each version is in one
-- partition and has its records there, and pieces are disjoint, together the records, and in the order of rids
pub record IsSound (w : World) : Type 0 where
  pub numbered : AreNumbered w
  pub begun : AllBegun w.sets
  pub run : AllRun w.sets
  pub placed : ArePlaced w.sets
  pub held : AreHeld w.sets
  pub pieces : ArePieces w.sets
  pub ordered : HaveOrder w.sets

-- a commit names parents that are there, a new version's rows rise by their keys, a copy finds a record missing, and a flip
-- finds none missing
pub record MayMove (m : Move) (w : World) : Type 0 where
  pub parents : NamesParents m w
  pub rows : RowsRise m w
  pub copy : MayCopy m w
  pub flip : MayFlip m w

-- each of them may be made after those before it
abbrev pub AllMay : List Move → World → Type 0
AllMay [] w = Unit {0}
AllMay (m ∷ moves) w = MayMove m w × AllMay moves (moved m w)

-- a commit lists a version
abbrev pub NamesVersions : Command → Type 0
NamesVersions (asks.Commit cvd vids file message added) = vids ≢ []
NamesVersions _ = Unit {0}

abbrev pub LineNames : Line → Type 0
LineNames (Asks command) = NamesVersions command
LineNames _ = Unit {0}

-- each of these lines that asks for a commit lists a version
abbrev pub AllNameVersions : List Form → List (List ℕ) → Type 0
AllNameVersions forms [] = Unit {0}
AllNameVersions forms (line ∷ lines) = LineNames (line_of forms line) × AllNameVersions forms lines
