-- Worlds, commands and moves so small that each count of them fits the programs' numbers.
use Rattle.std.specs.Prelude.{ℕ, ◌+◌, ◌^◌, ◌<◌, ◌≤◌, List, [], ◌∷◌, length, IfSome}
use Rattle.ov_model.specs.Book.{Version}
use Rattle.ov_model.specs.Records.{order_of}
use Rattle.ov_model.specs.World.{Dataset, World, stored}
use Rattle.ov_model.specs.declared.command.Command.{Command}
use Rattle.ov_model.specs.declared.command.Command.TheVariants as asks
use Rattle.ov_plain_act.specs.declared.changes.Change.{Change}
use Rattle.ov_plain_act.specs.declared.changes.Change.TheVariants as changes
use Rattle.ov_plain_act.specs.declared.deed.Move.{Move}
use Rattle.ov_plain_act.specs.declared.deed.Move.TheVariants as kept

-- each version has at most 65,535 rows
abbrev pub HaveFewRows : List Version → Type 0
HaveFewRows [] = Unit {0}
HaveFewRows (v ∷ versions) = (length v.rows ≤ 65535) × HaveFewRows versions

-- at most 65,535 versions of few rows each, with fewer than 2^32 records
pub record IsSmallSet (d : Dataset) : Type 0 where
  pub versions : length d.cvd.versions ≤ 65535
  pub rows : HaveFewRows d.cvd.versions
  pub records : length (order_of d.cvd.versions) < 2 ^ 32

abbrev pub AreSmall : List Dataset → Type 0
AreSmall [] = Unit {0}
AreSmall (d ∷ sets) = IsSmallSet d × AreSmall sets

-- a checkout lists at most 65,535 versions
abbrev pub IsSmallCommand : Command → Type 0
IsSmallCommand (asks.Checkout cvd vids file table) = length vids ≤ 65535
IsSmallCommand _ = Unit {0}

-- each of these numbers fits 32 bits
abbrev pub AllFit : List ℕ → Type 0
AllFit [] = Unit {0}
AllFit (n ∷ ns) = (n < 2 ^ 32) × AllFit ns

-- a dataset of few rows takes a version and a partition more, and stores fewer than 2^64 records; and its running plan has few
-- targets and isn't past them
pub record HasPlace (d : Dataset) : Type 0 where
  pub versions : length d.cvd.versions < 65535
  pub rows : HaveFewRows d.cvd.versions
  pub parts : length d.parts ≤ 65535
  pub number : d.next_part < 4294967295
  pub stored : stored d < 2 ^ 64
  pub at : IfSome d.plan (λ plan. plan.at < 65535)
  pub targets : IfSome d.plan (λ plan. length plan.targets ≤ 65535)

abbrev pub HavePlace : List Dataset → Type 0
HavePlace [] = Unit {0}
HavePlace (d ∷ sets) = HasPlace d × HavePlace sets

-- the numbers of a World can be counted on, and each dataset has place
pub record CanMove (w : World) : Type 0 where
  pub next : w.next < 4294967295
  pub epoch : w.epoch + 1 < 2 ^ 64
  pub records : w.records + 1 < 2 ^ 64
  pub sets : HavePlace w.sets

-- a commit has few rows
abbrev pub IsSmallMove : Move → Type 0
IsSmallMove (kept.Commit cvd added version) = length version.rows < 4294967295
IsSmallMove _ = Unit {0}

abbrev pub IsSmallChange : Change → Type 0
IsSmallChange (changes.Version added version) = length version.rows < 4294967295
IsSmallChange _ = Unit {0}

-- each of these moves has few rows
abbrev pub AreSmallMoves : List Move → Type 0
AreSmallMoves [] = Unit {0}
AreSmallMoves (m ∷ moves) = IsSmallMove m × AreSmallMoves moves
