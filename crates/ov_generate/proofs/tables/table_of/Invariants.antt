use Rattle.std.proofs.Common.{◌≡◌, map, take}
use Rattle.ov_generate.proofs.tables.table_of.Given as goal

abbrev pub invariant-loop-row : goal.invariant-loop-row
invariant-loop-row l = (l.table.columns ≡ l.schema.columns) × (map (λ r. r.row) l.table.records ≡ take l.row-index l.rows)
