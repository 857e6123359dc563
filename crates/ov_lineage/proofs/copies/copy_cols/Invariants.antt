use Rattle.std.proofs.Common.{◌≡◌, take}
use Rattle.ov_lineage.proofs.copies.copy_cols.Given as goal

abbrev pub invariant-loop-col : goal.invariant-loop-col
invariant-loop-col l = l.made ≡ take l.col-index l.cols
