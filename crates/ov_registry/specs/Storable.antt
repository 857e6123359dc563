-- Rows that a segment can have.
--     CanStore schema row      a row of the schema, of at most 65,536 bytes
use Rattle.ov_model.specs.Book.{Row}
use Rattle.ov_store.specs.Beginning.{IsShort}
use Rattle.ov_value.specs.Shapes.{Shape}
use Rattle.ov_value.specs.Spelling.{IsRow}

pub record CanStore (schema : Shape) (row : Row) : Type 0 where
  pub fits : IsRow schema row
  pub short : IsShort row
