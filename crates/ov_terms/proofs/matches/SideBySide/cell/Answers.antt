use Rattle.std.proofs.Common.{arith}
use Rattle.ov_terms.proofs.Joined.{cell-left, cell-right}
use Rattle.ov_terms.proofs.matches.SideBySide.cell.Goals as goal

pub returns-then-place-self : goal.returns-then-place-self
returns-then-place-self c =
    rw (← c.self.view_is)
    (cell-left c.self.inside.left.now c.self.inside.right.now c.self.inside.matches.now c.args.at c.args.place c.self.inside.width _ c.row.result _
    c.self.invariant.0 c.self.invariant.1 (omega (arith, c.if-at-self.false)) c.if-place-self.true c.row.ensures c.at.ensures)

pub returns-else-place-self : goal.returns-else-place-self
returns-else-place-self c =
    rw (← c.self.view_is)
    (cell-right c.self.inside.left.now c.self.inside.right.now c.self.inside.matches.now c.args.at c.args.place c.self.inside.width _
    c.row-else-place-self.result _ c.self.invariant.0 c.self.invariant.1 (omega (arith, c.if-at-self.false)) (omega (arith, c.if-place-self.false))
    c.row-else-place-self.ensures c.at-else-place-self.ensures)
