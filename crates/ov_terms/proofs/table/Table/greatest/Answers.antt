-- One value more, or NULL.
use Rattle.std.proofs.Common.{◌∙◌, ap}
use Rattle.ov_model.specs.Answers.{greatest_from}
use Rattle.ov_terms.proofs.Values.{greatest-more, onward, values-more}
use Rattle.ov_terms.proofs.table.Table.greatest.Goals as goal

pub loop-spot-preserved : goal.loop-spot-preserved
loop-spot-preserved c =
    let before = c.loop-spot.invariant in
    let here = values-more c.args.self.now c.args.found c.args.group.now c.loop-spot.spot-index _ c.loop-spot-test.true in
    let step = greatest-more _ _ _ before.0 in
    rw (c.greater-greatest.ensures, c.value_at.ensures) (step.0, before.1 ∙ ap (onward greatest_from _) here ∙ step.1)
