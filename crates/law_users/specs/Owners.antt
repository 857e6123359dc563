-- What is asked of a World so that a user's staged tables are his, and which commands change them.
--     IsKept w      no two live datasets share a number or a name, numbers are below the next one, and the staged tables of the last version
--                   stand in key order, no key twice
--     IsStaging command      it stages a table or takes one off
use Rattle.std.specs.Prelude.{◌≢◌, ◌<◌, ℕ, List, [], ◌∷◌, Some}
use Rattle.ov_value.specs.Rows.{key_cmp}
use Rattle.ov_model.specs.Lists.{Rises}
use Rattle.ov_model.specs.Registry.{last_rows, stage_name, stage_schema}
use Rattle.ov_model.specs.World.{Dataset, World, set_named}
use Rattle.ov_model.specs.declared.command.Command.{Command}
use Rattle.ov_model.specs.declared.command.Command.TheVariants as asks

abbrev pub IsApart : Dataset → List Dataset → Type 0
IsApart d [] = Unit {0}
IsApart d (e ∷ sets) = ((d.cvd.number ≢ e.cvd.number) × (d.cvd.name ≢ e.cvd.name)) × IsApart d sets

abbrev pub AreApart : List Dataset → Type 0
AreApart [] = Unit {0}
AreApart (d ∷ sets) = IsApart d sets × AreApart sets

abbrev pub HaveNumbersBelow : ℕ → List Dataset → Type 0
HaveNumbersBelow next [] = Unit {0}
HaveNumbersBelow next (d ∷ sets) = (d.cvd.number < next) × HaveNumbersBelow next sets

pub record IsKept (w : World) : Type 0 where
  pub apart : AreApart w.sets
  pub below : HaveNumbersBelow w.next w.sets
  pub ordered : Rises (key_cmp stage_schema) (last_rows (set_named w stage_name))

abbrev pub IsStaging : Command → Type 0
IsStaging (asks.Checkout cvd vids file (Some table)) = Unit {0}
IsStaging (asks.Unstage user table) = Unit {0}
IsStaging _ = ⊥
