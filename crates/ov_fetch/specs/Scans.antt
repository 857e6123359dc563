-- Scans: records of a dataset, and where among them the rows of each version stand.
--     rows_of records      the rows of records
--     rows_at records places      the rows at these positions
--     IsSound schema scan      the rows fit the schema, and those of each version stand in key order
use Rattle.std.specs.Prelude.{◌≡◌, ◌<◌, ℕ, List, [], length, map, slice_index_or}
use Rattle.std.specs.List.{All}
use Rattle.std.specs.List.Sorted.{IsSorted}
use Rattle.ov_value.specs.declared.value.Value.{Value}
use Rattle.ov_value.specs.Shapes.{Shape}
use Rattle.ov_value.specs.Rows.{Fits, key_cmp}
use Rattle.ov_segment.specs.declared.numbered.Record.{Record}
use Rattle.ov_fetch.specs.declared.scan.Scan.{Scan}

abbrev pub rows_of : List Record → List (List Value)
rows_of records = map (λ r. r.row) records

-- the row at a position, and the rows at positions
abbrev pub row_at : List Record → ℕ → List Value
row_at records place = slice_index_or (rows_of records) place []

abbrev pub rows_at : List Record → List ℕ → List (List Value)
rows_at records places = map (row_at records) places

-- all rows fit
abbrev pub AllFit : Shape → List Record → Type 0
AllFit schema records = All (Fits schema) (rows_of records)

-- each position exists
abbrev pub AllStand : List Record → List ℕ → Type 0
AllStand records places = All (λ place. place < length records) places

-- in key order, where equal keys may follow one another
abbrev pub InKeyOrder : Shape → List (List Value) → Type 0
InKeyOrder schema rows = IsSorted (key_cmp schema) rows

pub record IsSound (schema : Shape) (scan : Scan) : Type 0 where
  pub paired : length scan.vids ≡ length scan.picks
  pub fit : AllFit schema scan.records
  pub stand : All (AllStand scan.records) scan.picks
  pub ordered : All (λ pick. InKeyOrder schema (rows_at scan.records pick)) scan.picks
