-- No version is that of an empty group.
use Rattle.std.proofs.Common.{◌≡◌, ◌<◌, ◌∷◌, [], ℕ, List, false, sym, length, arith}
use Rattle.ov_model.specs.Book.{Row}
use Rattle.ov_terms.specs.Finding.{is_among}
use Rattle.ov_terms.specs.Standing.{pairs_at}
use Rattle.ov_terms.specs.declared.spot.Spot.{Spot}
use Rattle.ov_terms.proofs.ThreeValues.{none-among}

pub nowhere : (rows : List Row) (group : List Spot) (vids : List ℕ) → length group < 1 → false ≡ is_among (pairs_at rows group) vids
nowhere rows [] vids h = sym (none-among vids)
nowhere rows (spot ∷ rest) vids h = absurd (omega arith)
