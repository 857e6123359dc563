use Rattle.std.proofs.Common.{◌++◌, List, ℕ, take}
use Rattle.ov_value.specs.Shapes.{Shape}
use Rattle.ov_model.specs.Book.{Row}
use Rattle.ov_records.specs.Records.{pairs_of, RowsFit}
use Rattle.ov_parents.specs.Seeing.{Maps, PairsFit}
use Rattle.ov_parents.proofs.disagreeing.see.Given as goal

abbrev pub invariant-loop-i : goal.invariant-loop-i
invariant-loop-i l =
    (schema : Shape) (before : List (ℕ × Row)) → Maps (λ r. r) l.fn.seen before → PairsFit schema before → RowsFit schema l.records → Maps (λ r. r) l.seen (before ++ pairs_of (take l.i l.records))
