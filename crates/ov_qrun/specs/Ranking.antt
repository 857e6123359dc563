-- An order of all cells, of one kind or not, in which NULL and nothing are one value below all others. Of cells of one kind it is
-- the order of the definitions, which is none over cells of several kinds.
--     ranked a b      of two cells
--     ranked_lists as bs      of lists of cells, from the left
--     ranked_by keys as bs      by the keys of ORDER BY, where these are the keys' cells
use Rattle.std.specs.Prelude.{ℕ, Bool, if◌then◌else◌, List, [], ◌∷◌}
use Rattle.std.specs.Ordering.{nat_cmp, ordering_reverse, ordering_then}
use Rattle.std.specs.Cmp.Lexicographic.{slice_cmp}
use Rattle.std.specs.declared.cmp.Ordering.{Ordering}
use Rattle.std.specs.declared.cmp.Ordering.TheVariants.{Equal}
use Rattle.ov_value.specs.declared.value.Value.TheVariants as value
use Rattle.ov_model.specs.Answers.{cells_order}
use Rattle.ov_model.specs.declared.answer.Cell.{Cell}
use Rattle.ov_model.specs.declared.answer.Cell.TheVariants as cell
use Rattle.ov_model.specs.declared.query.Key.{Key}

-- where cells of unlike kinds stand
abbrev pub rank : Cell → ℕ
rank (cell.Value value.Null) = 0
rank cell.Nothing = 0
rank (cell.Value (value.Flag _)) = 1
rank (cell.Value (value.Int _)) = 2
rank (cell.Sum _) = 2
rank (cell.Value (value.Text _)) = 3

abbrev pub ranked : Cell → Cell → Ordering
ranked a b = ordering_then (nat_cmp (rank a) (rank b)) (cells_order a b)

abbrev pub ranked_lists : List Cell → List Cell → Ordering
ranked_lists = slice_cmp ranked

-- DESC turns a key's order round
abbrev pub turned_by : Bool → Ordering → Ordering
turned_by down order = if down then ordering_reverse order else order

abbrev pub first_cell : List Cell → Cell
first_cell [] = cell.Nothing
first_cell (c ∷ cells) = c

abbrev pub later_cells : List Cell → List Cell
later_cells [] = []
later_cells (c ∷ cells) = cells

abbrev pub ranked_by : List Key → List Cell → List Cell → Ordering
ranked_by [] as_ bs = Equal
ranked_by (key ∷ keys) as_ bs =
    ordering_then (turned_by key.down (ranked (first_cell as_) (first_cell bs))) (ranked_by keys (later_cells as_) (later_cells bs))
