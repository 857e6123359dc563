use Rattle.std.proofs.Common.{◌≡◌, drop}
use Rattle.ov_qrun.specs.Keys.{key_at}
use Rattle.ov_qrun.specs.Ranking.{ranked_lists}
use Rattle.ov_join.specs.Partnering.{row_order, row_spot}
use Rattle.ov_join.proofs.matching.cmp_rows.Given as goal

-- the columns that are left decide
abbrev pub invariant-loop-i : goal.invariant-loop-i
invariant-loop-i l =
    row_order l.left l.right l.place l.spot
    ≡ ranked_lists (key_at l.right.table (drop l.i l.right.cols.items) l.spot) (key_at l.left.table (drop l.i l.left.cols.items) (row_spot l.place))
