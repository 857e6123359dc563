use Rattle.std.proofs.Common.{◌∙◌, ap}
use Rattle.ov_model.specs.Answers.{here_for, order_by, sorted_by}
use Rattle.ov_qrun.proofs.Meaning.{ordered-are, pairs-placed}
use Rattle.ov_qrun.proofs.run.ordered.Goals as goal

pub returns : goal.returns
returns c = λ related.
    let plan = c.args.plan.now in
    let records = c.args.table.now in
    let order = plan.query.now.order in
    rw (c.in_ok-sort_places.ensures, c.as_slice-2.ensures)
    (ordered-are plan.shape.now records related order plan.order.items c.in_ok-found.found.items c.requires.fit c.requires.plan.order
    (rw c.as_slice.ensures.value at c.in_ok-found.ensures.keys)
    ∙ ap (sorted_by (λ a b. order_by order (here_for plan.shape.now related a) (here_for plan.shape.now related b)))
    (pairs-placed (λ group. group.now) records c.in_ok-found.found.items c.args.groups.now c.in_ok-found.ensures.groups))
