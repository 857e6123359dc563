use Rattle.ov_model.specs.Answers.{term_of_group}
use Rattle.ov_terms.specs.Finding.{found_term}
use Rattle.ov_terms.proofs.Found.{found-all, found-more}
use Rattle.ov_terms.proofs.found_items.find_terms.Goals as goal

pub loop-term-preserved : goal.loop-term-preserved
loop-term-preserved c = λ group.
    rw c.in_ok-push.ensures.items
    (found-more (found_term group) (term_of_group c.args.shape.now group) c.loop-term.found.items c.args.terms.now c.loop-term.term-index c.of.result
    c.term-item.result c.loop-term-test.true c.term-item.is (c.of.ensures group) (c.loop-term.invariant group))

pub returns : goal.returns
returns c = λ group.
    found-all (found_term group) (term_of_group c.args.shape.now group) c.loop-term.found.items c.args.terms.now c.loop-term.term-index
    c.loop-term-test.false (c.loop-term.invariant group)
