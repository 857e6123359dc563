-- A dataset of at most 65,535 rows a version is small for the programs that compute its tree.
use Rattle.std.proofs.Common.{List, [], ◌∷◌, arith}
use Rattle.ov_model.specs.Book.{Version}
use Rattle.ov_model.specs.World.{Dataset}
use Rattle.ov_plain.specs.Small as plain
use Rattle.ov_plain_act.specs.Small.{HaveFewRows, IsSmallSet, HasPlace}

few : (versions : List Version) → HaveFewRows versions → plain.HaveFewRows versions
few [] rows = tt
few (v ∷ versions) rows = (omega (arith, rows.0), few versions rows.1)

pub set_small : (d : Dataset) → IsSmallSet d → plain.IsSmall d.cvd
set_small d small = record { versions = small.versions; rows = few d.cvd.versions small.rows }

pub place_small : (d : Dataset) → HasPlace d → plain.IsSmall d.cvd
place_small d place = record { versions = omega (arith, place.versions); rows = few d.cvd.versions place.rows }
