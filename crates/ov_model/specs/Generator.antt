-- The generator of datasets: a seed, a number of rows and a number of versions give each version's parent and rows.
--     generated number name seed rows versions      the moves that make the dataset of this number
use Rattle.std.specs.Prelude.{ℕ, zero, suc, ◌+◌, ◌-◌, ◌*◌, ◌/◌, ◌%◌, ◌^◌, ◌==◌, if◌then◌else◌, List, [], ◌∷◌, ◌++◌, length, map, slice_index_or, codes, pos}
use Rattle.std.specs.Fmt.{decimal}
use Rattle.ov_value.specs.declared.column.Kind.TheVariants as kind
use Rattle.ov_value.specs.declared.value.Value.TheVariants.{Int, Text}
use Rattle.ov_value.specs.Shapes.{Shape}
use Rattle.ov_model.specs.Book.{Row}
use Rattle.ov_model.specs.Moves.{Move, Init, Commit}

-- what was drawn, and the state after it
pub record Drawn (X : Type 0) : Type 0 where
  pub state : ℕ
  pub is : X

-- a linear congruence modulo 2^64, of which the high bits count
abbrev pub next_state : ℕ → ℕ
next_state x = (x * 6364136223846793005 + 1442695040888963407) % 2 ^ 64

-- a number below n
abbrev pub draw : ℕ → ℕ → Drawn ℕ
draw n x = record { state = next_state x; is = (next_state x / 2 ^ 33) % n }

abbrev pub generated_schema : Shape
generated_schema = record {
  columns =
      record { name = codes "id"; kind = kind.Int }
      ∷ record { name = codes "a"; kind = kind.Int }
      ∷ record { name = codes "b"; kind = kind.Text }
      ∷ [];
  key = 0 ∷ [];
}

-- a fresh row: its number is drawn, and then the number in its text
abbrev pub row_drawn : ℕ → Drawn ℕ → Drawn ℕ → Drawn Row
row_drawn id a b = record { state = b.state; is = Int (pos id) ∷ Int (pos a.is) ∷ Text (codes "t" ++ decimal b.is) ∷ [] }

abbrev pub fresh_row : ℕ → ℕ → Drawn Row
fresh_row id x = row_drawn id (draw 1000 x) (draw 100 (draw 1000 x).state)

abbrev pub onto_rows : Drawn Row → Drawn (List Row) → Drawn (List Row)
onto_rows row rows = record { state = rows.state; is = row.is ∷ rows.is }

-- so many fresh rows, with ids from `id` on
abbrev pub fresh_rows : ℕ → ℕ → ℕ → Drawn (List Row)
fresh_rows zero id x = record { state = x; is = [] }
fresh_rows (suc count) id x = onto_rows (fresh_row id x) (fresh_rows count (id + 1) (fresh_row id x).state)

-- the parent of the version after `before`: that one, or in one case of four any of those up to it
abbrev pub parent_by : ℕ → Drawn ℕ → Drawn ℕ
parent_by before c =
    if c.is == 0
    then record { state = (draw before c.state).state; is = 1 + (draw before c.state).is }
    else record { state = c.state; is = before }

abbrev pub parent_drawn : ℕ → ℕ → Drawn ℕ
parent_drawn before x = parent_by before (draw 4 x)

-- the row with this id gets another number
abbrev pub with_number : ℕ → ℕ → Row → Row
with_number id a (Int (pos n) ∷ old ∷ rest) = if n == id then Int (pos n) ∷ Int (pos a) ∷ rest else Int (pos n) ∷ old ∷ rest
with_number id a row = row

-- so many changes of one row each, whose id is from 1 to `count`
abbrev pub change_by : Drawn ℕ → Drawn ℕ → List Row → Drawn (List Row)
change_by id a rows = record { state = a.state; is = map (with_number (1 + id.is) a.is) rows }

abbrev pub change_one : ℕ → ℕ → List Row → Drawn (List Row)
change_one count x rows = change_by (draw count x) (draw 1000 (draw count x).state) rows

abbrev pub changes : ℕ → ℕ → Drawn (List Row) → Drawn (List Row)
changes zero count drawn = drawn
changes (suc left) count drawn = changes left count (change_one count drawn.state drawn.is)

-- a version's rows: its parent's, with one change and one more for each hundred rows, and then a fresh row
abbrev pub and_row : Drawn (List Row) → Drawn Row → Drawn (List Row)
and_row rows row = record { state = row.state; is = rows.is ++ row.is ∷ [] }

abbrev pub child_of : ℕ → ℕ → ℕ → List Row → Drawn (List Row)
child_of count vid x parent =
    let changed : Drawn (List Row) = changes (1 + count / 100) count (record { state = x; is = parent })
    in and_row changed (fresh_row (count + vid) changed.state)

-- the versions behind those that are there, one a commit
abbrev pub commits : ℕ → ℕ → ℕ → ℕ → List (List Row) → List Move
commits zero number count x done = []
commits (suc left) number count x done =
    let parent : Drawn ℕ = parent_drawn (length done) x
    in let rows : Drawn (List Row) = child_of count (length done + 1) parent.state (slice_index_or done (parent.is - 1) [])
    in Commit number (parent.is ∷ []) (codes "gen") [] rows.is ∷ commits left number count rows.state (done ++ rows.is ∷ [])

abbrev pub generated : ℕ → List ℕ → ℕ → ℕ → ℕ → List Move
generated number name seed count versions =
    let first : Drawn (List Row) = fresh_rows count 1 seed
    in Init name generated_schema first.is ∷ commits (versions - 1) number count first.state (first.is ∷ [])
