-- Data so small that each count of it fits the programs' numbers.
use Rattle.std.specs.Prelude.{◌<◌, ◌≤◌, List, [], ◌∷◌, length}
use Rattle.ov_model.specs.Book.{Version, Cvd}
use Rattle.ov_model.specs.World.{Part}

-- each version has fewer than 2^32 - 1 rows
abbrev pub HaveFewRows : List Version → Type 0
HaveFewRows [] = Unit {0}
HaveFewRows (v ∷ versions) = (length v.rows < 4294967295) × HaveFewRows versions

-- at most 65,535 versions, of few rows each
pub record IsSmall (cvd : Cvd) : Type 0 where
  pub versions : length cvd.versions ≤ 65535
  pub rows : HaveFewRows cvd.versions

-- each partition serves at most 65,535 versions
abbrev pub ServeFew : List Part → Type 0
ServeFew [] = Unit {0}
ServeFew (part ∷ parts) = (length part.versions ≤ 65535) × ServeFew parts
