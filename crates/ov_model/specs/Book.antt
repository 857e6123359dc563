-- Datasets and their versions, without partitions.
use Rattle.std.specs.Prelude.{ℕ, List, ◌++◌, replicate}
use Rattle.ov_value.specs.declared.value.Value.{Value}
use Rattle.ov_value.specs.declared.value.Value.TheVariants.{Null}
use Rattle.ov_value.specs.Shapes.{Shape}

abbrev pub Row : Type 0
Row = List Value

-- the numbers of its parents in the order in which they were listed, its message, and its rows in key order with no key twice
pub record Version : Type 0 where
  pub parents : List ℕ
  pub message : List ℕ
  pub rows : List Row

-- a dataset: its number among all that were made, its name, its schema, and its versions, numbered from 1; every row fits the
-- present schema
pub record Cvd : Type 0 where
  pub number : ℕ
  pub name : List ℕ
  pub schema : Shape
  pub versions : List Version

-- the live datasets in order of creation
abbrev pub Book : Type 0
Book = List Cvd

-- a row with NULL in this many columns more, at its right
abbrev pub extended : ℕ → Row → Row
extended count row = row ++ replicate count Null
