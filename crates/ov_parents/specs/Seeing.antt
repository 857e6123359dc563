-- A map from rids to the rows that they were seen with.
--     Maps entry m seen      the map has the rids of these records, each with its row, and no others; entry tells an entry's row
--     PairsFit schema pairs      each row is one of the schema
use Rattle.std.specs.Prelude.{◌≡◌, ◌↔◌, ℕ, List, Some}
use Rattle.std.specs.BTreeMap.{BTreeMap, get}
use Rattle.std.specs.Option.{option_map}
use Rattle.std.specs.Ordering.{nat_cmp}
use Rattle.ov_value.specs.Rows.{Fits}
use Rattle.ov_value.specs.Shapes.{Shape}
use Rattle.ov_model.specs.Book.{Row}
use Rattle.ov_model.specs.Lists.{IsIn}

abbrev pub Maps : {V : Type 0} → (V → Row) → BTreeMap ℕ V → List (ℕ × Row) → Type 0
Maps entry m seen = (rid : ℕ) (row : Row) → (option_map entry (get nat_cmp m rid) ≡ Some row) ↔ IsIn seen (rid, row)

abbrev pub PairsFit : Shape → List (ℕ × Row) → Type 0
PairsFit schema pairs = (rid : ℕ) (row : Row) → IsIn pairs (rid, row) → Fits schema row
