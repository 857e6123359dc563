use Rattle.std.proofs.Common.{ℕ, List, ap}
use Rattle.ov_model.specs.Answers.{value_in}
use Rattle.ov_model.specs.declared.answer.Cell.TheVariants as cell
use Rattle.ov_model.specs.declared.query.Col.TheVariants as col
use Rattle.ov_terms.specs.Finding.{value_at}
use Rattle.ov_terms.proofs.Found.{found-all, found-more}
use Rattle.ov_join.proofs.side.left_cols.Goals as goal

pub loop-names-preserved : goal.loop-names-preserved
loop-names-preserved c = λ pair.
    rw c.in_ok-push.ensures.items
    (found-more (λ one. cell.Value (value_at one pair)) (λ (on : List ℕ × List ℕ). cell.Value (value_in c.args.shape.now pair (col.Name on.0))) c.loop-names.found.items
    c.args.on.now c.loop-names.names-index c.in_ok-lookup.field-0 c.names-item.result c.loop-names-test.true c.names-item.is
    (ap cell.Value (c.in_ok-lookup.ensures pair)) (c.loop-names.invariant pair))

pub returns : goal.returns
returns c = λ pair.
    found-all (λ one. cell.Value (value_at one pair)) (λ (on : List ℕ × List ℕ). cell.Value (value_in c.args.shape.now pair (col.Name on.0))) c.loop-names.found.items
    c.args.on.now c.loop-names.names-index c.loop-names-test.false (c.loop-names.invariant pair)
