-- The pairs of rows of two scans that match in a join.
--     rows_shown scan      the rows of a scan, in its order
--     pairs_met typed left right      the pairs that every comparison of ON finds equal
--     left_key, right_key schema on pair      the values of a side's columns of ON
--     places_of scan      the positions of the first version's rows
use Rattle.std.specs.Prelude.{ℕ, List, [], ◌∷◌, map}
use Rattle.ov_fetch.specs.declared.scan.Scan.{Scan}
use Rattle.ov_model.specs.Answers.{Pair, value_in}
use Rattle.ov_model.specs.Book.{Row}
use Rattle.ov_model.specs.Joins.{matches}
use Rattle.ov_model.specs.declared.answer.Cell.{Cell}
use Rattle.ov_model.specs.declared.answer.Cell.TheVariants as cell
use Rattle.ov_model.specs.declared.query.Col.TheVariants as col
use Rattle.ov_value.specs.Shapes.{Shape}
use Rattle.ov_terms.specs.Standing.{pairs_shown}
use Rattle.ov_join.specs.Fitting.{Fitting}

abbrev pub rows_shown : Scan → List Row
rows_shown scan = map (λ pair. pair.row) (pairs_shown scan)

abbrev pub pairs_met : Fitting → Scan → Scan → List Pair
pairs_met typed left right = matches typed.join typed.left typed.right (rows_shown left) (rows_shown right)

abbrev pub left_key : Shape → List (List ℕ × List ℕ) → Pair → List Cell
left_key schema ons pair = map (λ on. cell.Value (value_in schema pair (col.Name on.0))) ons

abbrev pub right_key : Shape → List (List ℕ × List ℕ) → Pair → List Cell
right_key schema ons pair = map (λ on. cell.Value (value_in schema pair (col.Name on.1))) ons

abbrev pub first_pick : List (List ℕ) → List ℕ
first_pick [] = []
first_pick (pick ∷ picks) = pick

abbrev pub places_of : Scan → List ℕ
places_of scan = first_pick scan.picks
