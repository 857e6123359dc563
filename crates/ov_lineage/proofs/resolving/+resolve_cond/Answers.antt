-- Each form of a condition says the same, and the first version that isn't there is the first of its parts'.
use Rattle.std.proofs.Common.{length, subst, sym}
use Rattle.ov_lineage.specs.Related.{relatives_by}
use Rattle.ov_lineage.specs.Resolved.{AllSayAs, refusal_of}
use Rattle.ov_lineage.proofs.Saying.{IfSome-weaker, refuses-by, all-say-more, first-here, none-more, says-not, says-every, says-any}
use Rattle.ov_lineage.proofs.resolving.+resolve_cond.Goals as goal

pub resolve_cond-returns-in_ok-inner-in-Not-2-clause-said : goal.resolve_cond-returns-in_ok-inner-in-Not-2-clause-said
resolve_cond-returns-in_ok-inner-in-Not-2-clause-said t c =
    rw (c.in-Not.is, c.in_ok-inner-in-Not-2.ensures)
    (says-not (relatives_by c.args.lineage.now) c.in-Not.inner c.in_ok-inner-in-Not.inner (rw c.get.ensures at c.in_ok-inner-in-Not.ensures.said))

pub resolve_cond-returns-in_ok-conds-in-Every-clause-said : goal.resolve_cond-returns-in_ok-conds-in-Every-clause-said
resolve_cond-returns-in_ok-conds-in-Every-clause-said t c =
    rw c.in-Every.is
    (says-every (relatives_by c.args.lineage.now) c.in-Every.conds c.in_ok-conds-in-Every.conds (rw c.as_slice-in-Every.ensures at c.in_ok-conds-in-Every.ensures.said))

pub resolve_cond-returns-in_ok-conds-in-Any-clause-said : goal.resolve_cond-returns-in_ok-conds-in-Any-clause-said
resolve_cond-returns-in_ok-conds-in-Any-clause-said t c =
    rw c.in-Any.is
    (says-any (relatives_by c.args.lineage.now) c.in-Any.conds c.in_ok-conds-in-Any.conds (rw c.as_slice-in-Any.ensures at c.in_ok-conds-in-Any.ensures.said))

pub resolve_conds-returns-in_err-resolve_cond-clause-refused : goal.resolve_conds-returns-in_err-resolve_cond-clause-refused
resolve_conds-returns-in_err-resolve_cond-clause-refused t c =
    refuses-by c.from_residual.result c.in_err-resolve_cond.field-0.0 _ c.from_residual.ensures.1
    (IfSome-weaker (refusal_of c.in_err-resolve_cond.field-0.0) _ _
    (λ first here. first-here (length c.args.lineage.now) c.args.conds.now c.loop-cond.cond-index c.cond-item.result first c.loop-cond-test.true c.cond-item.is c.loop-cond.invariant.1 here)
    c.in_err-resolve_cond.ensures.refused)

pub resolve_conds-loop-cond-preserved : goal.resolve_conds-loop-cond-preserved
resolve_conds-loop-cond-preserved t c =
    let conds = c.args.conds.now in
    let i = c.loop-cond.cond-index in (
      subst (AllSayAs (relatives_by c.args.lineage.now) _) (sym c.in_ok-push.ensures.ok)
          (all-say-more (relatives_by c.args.lineage.now) conds i c.loop-cond.made c.cond-item.result c.in_ok-resolve_cond.field-0 c.loop-cond-test.true c.cond-item.is
          c.loop-cond.invariant.0 c.in_ok-resolve_cond.ensures.said),
      none-more (length c.args.lineage.now) conds i c.cond-item.result c.loop-cond-test.true c.cond-item.is c.loop-cond.invariant.1 c.in_ok-resolve_cond.ensures.refused,
    )
