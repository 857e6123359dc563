use Rattle.std.proofs.Common.{arith}
use Rattle.ov_terms.proofs.Joined.{cells-joined}
use Rattle.ov_terms.proofs.matches.SideBySide.cells.Goals as goal

pub returns : goal.returns
returns c =
    rw (← c.self.view_is)
    (cells-joined c.self.inside.left.now c.self.inside.right.now c.self.inside.matches.now c.args.at _ c.row.result c.row-2.result _ _ _
    c.self.invariant.1 (omega (arith, c.if-at-self.false)) c.row.ensures c.row-2.ensures
    (rw (c.new-cells.ensures.items, c.cells.ensures) at c.in_ok-push_cells.ensures) (rw c.cells-2.ensures at c.in_ok-push_cells-2.ensures) c.from_vec.ensures)
