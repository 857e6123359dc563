use Rattle.std.proofs.Common.{◌≡◌, ◌+◌, length, map}
use Rattle.ov_csv.proofs.Lists.{IsAnswer}
use Rattle.ov_csv.proofs.reading.read_rows.Given as goal

-- the answer is the rows so far, and then the answer of the records that are left
abbrev pub invariant-loop-draft : goal.invariant-loop-draft
invariant-loop-draft l = record {
  columns : l.table.columns ≡ l.schema.columns;
  answer : IsAnswer l.schema l.initial.lines (map (λ r. r.row) l.table.records) (length (map (λ r. r.row) l.table.records) + 1) l.lines;
}

abbrev pub decreases-loop-draft : goal.decreases-loop-draft
decreases-loop-draft l = length l.lines
