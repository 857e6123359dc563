use Rattle.ov_model.specs.Answers.{term_of_group}
use Rattle.ov_model.specs.declared.query.Key.{Key}
use Rattle.ov_terms.specs.Finding.{found_term}
use Rattle.ov_terms.proofs.Found.{found-all, found-more}
use Rattle.ov_qrun.proofs.plan.find_keys.Goals as goal

pub loop-key-preserved : goal.loop-key-preserved
loop-key-preserved c = λ group.
    rw c.in_ok-push.ensures.items
    (found-more (found_term group) (λ (key : Key). term_of_group c.args.shape.now group key.term) c.loop-key.found.items c.args.order.now c.loop-key.key-index
    c.of.result c.key-item.result c.loop-key-test.true c.key-item.is (c.of.ensures group) (c.loop-key.invariant group))

pub returns : goal.returns
returns c = λ group.
    found-all (found_term group) (λ (key : Key). term_of_group c.args.shape.now group key.term) c.loop-key.found.items c.args.order.now c.loop-key.key-index
    c.loop-key-test.false (c.loop-key.invariant group)
