use Rattle.std.proofs.Common.{◌≡◌, map, take}
use Rattle.std.specs.List.{All}
use Rattle.ov_store.specs.Beginning.{IsShort}
use Rattle.ov_value.specs.Spelling.{IsRow}
use Rattle.ov_registry.proofs.tables.table_of.Given as goal

abbrev pub invariant-loop-row : goal.invariant-loop-row
invariant-loop-row l = record {
  columns : l.table.columns ≡ l.schema.columns;
  rows : map (λ r. r.row) l.table.records ≡ take l.row-index l.rows;
  fit : All (IsRow l.schema) (take l.row-index l.rows);
  short : All IsShort (take l.row-index l.rows);
}
