use Rattle.std.proofs.Common.{◌≡◌, ◌≤◌, ◌+◌, ◌++◌, length, map, All}
use Rattle.std.specs.Vec.Iter.{into_iter_items}
use Rattle.ov_segment.specs.Tables.{longer}
use Rattle.ov_parents.proofs.widening.with_columns.Given as goal

-- what is ahead comes behind what has been made wider
abbrev pub invariant-loop-table : goal.invariant-loop-table
invariant-loop-table l = record {
  can : (goal.iterator-loop-table).can_next l.table-iterator;
  ends : (goal.iterator-loop-table).is_finite l.table-iterator;
  within : All (λ records. All (λ r. length r.row + length l.added ≤ 64) records) (into_iter_items l.table-iterator);
  each : l.wide.items ++ map (map (longer (length l.added))) (into_iter_items l.table-iterator) ≡ map (map (longer (length l.added))) l.fn.records.items;
}
