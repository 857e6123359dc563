-- What is found of each form of a condition says the same.
use Rattle.std.proofs.Common.{◌∙◌, ap, ap₂, sym}
use Rattle.std.specs.Prelude.{Some}
use Rattle.ov_model.specs.Answers.{cell_order, compared, here_for, is_null_cell, truth, truth_any, truth_every, truth_not, turned_if}
use Rattle.ov_terms.specs.Finding.{found_truth}
use Rattle.ov_terms.proofs.Found.{found-all, found-more}
use Rattle.ov_terms.proofs.found_cond.+find_cond.Goals as goal

pub find_cond-returns-in_ok-right-in-Compare : goal.find_cond-returns-in_ok-right-in-Compare
find_cond-returns-in_ok-right-in-Compare n c = λ related group.
    rw c.in-Compare.is
    (c.found_by_cases.ensures.compare _ _ _ _
    ∙ ap₂ (λ x y. compared c.in-Compare.sign (cell_order x y)) (c.in_ok-left-in-Compare.ensures related group) (c.in_ok-right-in-Compare.ensures related group)
    ∙ sym (c.truth_by_cases.ensures.compare _ _ _ _))

pub find_cond-returns-in_ok-tested-in-IsNull : goal.find_cond-returns-in_ok-tested-in-IsNull
find_cond-returns-in_ok-tested-in-IsNull n c = λ related group.
    rw c.in-IsNull.is
    (c.found_by_cases.ensures.null _ _ _ ∙ ap (λ x. Some (turned_if c.in-IsNull.negated (is_null_cell x))) (c.in_ok-tested-in-IsNull.ensures related group)
    ∙ sym (c.truth_by_cases.ensures.null _ _ _))

pub find_cond-returns-in_ok-inner-in-Not-2 : goal.find_cond-returns-in_ok-inner-in-Not-2
find_cond-returns-in_ok-inner-in-Not-2 n c = λ related group.
    rw (c.in-Not.is, c.in_ok-inner-in-Not-2.ensures)
    (c.found_by_cases.ensures.not_ _ _ ∙ ap truth_not (rw c.get.ensures at c.in_ok-inner-in-Not.ensures related group)
    ∙ sym (c.truth_by_cases.ensures.not_ _ _))

pub find_cond-returns-in_ok-conds-in-Every : goal.find_cond-returns-in_ok-conds-in-Every
find_cond-returns-in_ok-conds-in-Every n c = λ related group.
    rw c.in-Every.is
    (c.found_by_cases.ensures.every _ _ ∙ ap truth_every (rw c.as_slice-in-Every.ensures at c.in_ok-conds-in-Every.ensures related group)
    ∙ sym (c.truth_by_cases.ensures.every _ _))

pub find_cond-returns-in_ok-conds-in-Any : goal.find_cond-returns-in_ok-conds-in-Any
find_cond-returns-in_ok-conds-in-Any n c = λ related group.
    rw c.in-Any.is
    (c.found_by_cases.ensures.any _ _ ∙ ap truth_any (rw c.as_slice-in-Any.ensures at c.in_ok-conds-in-Any.ensures related group)
    ∙ sym (c.truth_by_cases.ensures.any _ _))

pub find_conds-loop-cond-preserved : goal.find_conds-loop-cond-preserved
find_conds-loop-cond-preserved n c = λ related group.
    rw c.in_ok-push.ensures.ok
    (found-more (found_truth group) (truth (here_for c.args.shape.now related group)) c.loop-cond.found c.args.conds.now c.loop-cond.cond-index
    c.in_ok-find_cond.field-0 c.cond-item.result c.loop-cond-test.true c.cond-item.is (c.in_ok-find_cond.ensures related group) (c.loop-cond.invariant related group))

pub find_conds-returns : goal.find_conds-returns
find_conds-returns n c = λ related group.
    found-all (found_truth group) (truth (here_for c.args.shape.now related group)) c.loop-cond.found c.args.conds.now c.loop-cond.cond-index
    c.loop-cond-test.false (c.loop-cond.invariant related group)
