use Rattle.std.proofs.Common.{◌≡◌, drop}
use Rattle.ov_qrun.specs.Keys.{key_at}
use Rattle.ov_qrun.specs.Ranking.{ranked_lists}
use Rattle.ov_qrun.proofs.groups.cmp_spots.Given as goal

-- the columns that are left decide
abbrev pub invariant-loop-col : goal.invariant-loop-col
invariant-loop-col l =
    ranked_lists (key_at l.table l.cols l.a) (key_at l.table l.cols l.b)
    ≡ ranked_lists (key_at l.table (drop l.col-index l.cols) l.a) (key_at l.table (drop l.col-index l.cols) l.b)
