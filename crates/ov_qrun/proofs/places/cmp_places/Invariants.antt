use Rattle.std.proofs.Common.{◌≡◌, drop}
use Rattle.ov_qrun.specs.Keys.{cells_in}
use Rattle.ov_qrun.specs.Ranking.{ranked_by}
use Rattle.ov_qrun.proofs.places.cmp_places.Given as goal

-- the keys that are left decide
abbrev pub invariant-loop-at : goal.invariant-loop-at
invariant-loop-at l =
    ranked_by l.order (cells_in l.a) (cells_in l.b)
    ≡ ranked_by (drop l.at l.order) (drop l.at (cells_in l.a)) (drop l.at (cells_in l.b))
