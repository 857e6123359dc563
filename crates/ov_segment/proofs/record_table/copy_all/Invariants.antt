use Rattle.std.proofs.Common.{◌≡◌, ◌++◌, get_or, map, take}
use Rattle.ov_segment.specs.declared.numbered.Record.{Record}
use Rattle.ov_segment.proofs.record_table.copy_all.Given as goal

abbrev pub invariant-loop-i : goal.invariant-loop-i
invariant-loop-i l = record {
  columns : l.table.columns ≡ l.other.columns;
  so_far : (none : Record) → l.table.records ≡ l.initial.table.records ++ map (λ i. get_or l.other.records i none) (take l.i-index l.order);
}
