use Rattle.std.proofs.Common.{ap}
use Rattle.ov_model.specs.Answers.{value_in}
use Rattle.ov_model.specs.declared.answer.Cell.TheVariants as cell
use Rattle.ov_terms.specs.Finding.{value_at}
use Rattle.ov_terms.proofs.Found.{found-all, found-more}
use Rattle.ov_qrun.proofs.plan.find_cols.Goals as goal

pub loop-col-preserved : goal.loop-col-preserved
loop-col-preserved c = λ pair.
    rw c.in_ok-push.ensures.items
    (found-more (λ one. cell.Value (value_at one pair)) (λ col. cell.Value (value_in c.args.shape.now pair col)) c.loop-col.found.items c.args.cols.now
    c.loop-col.col-index c.of.result c.col-item.result c.loop-col-test.true c.col-item.is (ap cell.Value (c.of.ensures pair)) (c.loop-col.invariant pair))

pub returns : goal.returns
returns c = λ pair.
    found-all (λ one. cell.Value (value_at one pair)) (λ col. cell.Value (value_in c.args.shape.now pair col)) c.loop-col.found.items c.args.cols.now
    c.loop-col.col-index c.loop-col-test.false (c.loop-col.invariant pair)
