-- What each form of a condition says.
use Rattle.std.proofs.Common.{◌∙◌, ap, map, refl, sym}
use Rattle.std.proofs.lemmas.List.{drop_all}
use Rattle.std.specs.Prelude.{Some}
use Rattle.ov_model.specs.Answers.{compared, truth_and, truth_any, truth_every, truth_not, truth_or, turned_if}
use Rattle.ov_terms.specs.Finding.{found_truth}
use Rattle.ov_terms.specs.Standing.{pairs_at}
use Rattle.ov_terms.proofs.ThreeValues.{and-stops, and-true, or-false, or-stops, every-more, any-more}
use Rattle.ov_terms.proofs.table.Table.+truth.Goals as goal

pub truth-returns-in-Compare : goal.truth-returns-in-Compare
truth-returns-in-Compare n c = rw c.in-Compare.is (c.compared.ensures ∙ ap (compared c.in-Compare.sign) c.order_of.ensures ∙ sym (c.found_by_cases.ensures.compare _ _ _ _))

pub truth-returns-in-IsNull : goal.truth-returns-in-IsNull
truth-returns-in-IsNull n c =
    rw c.in-IsNull.is
    (ap (λ t. Some t) (c.turned_if.ensures ∙ ap (turned_if c.in-IsNull.negated) c.is_null.ensures)
    ∙ sym (c.found_by_cases.ensures.null _ _ _))

pub truth-returns-in-InList : goal.truth-returns-in-InList
truth-returns-in-InList n c =
    rw c.in-InList.is
    (ap (λ t. Some t) (c.turned_if-in-InList.ensures ∙ ap (turned_if c.in-InList.negated) (rw c.as_slice.ensures at c.is_among.ensures))
    ∙ sym (c.found_by_cases.ensures.listed _ _ _))

pub truth-returns-in-Not : goal.truth-returns-in-Not
truth-returns-in-Not n c =
    rw c.in-Not.is (c.truth_not.ensures ∙ ap truth_not (rw c.get.ensures at c.truth.ensures) ∙ sym (c.found_by_cases.ensures.not_ _ _))

pub truth-returns-in-Every : goal.truth-returns-in-Every
truth-returns-in-Every n c = rw c.in-Every.is ((rw c.as_slice-in-Every.ensures at c.every.ensures) ∙ sym (c.found_by_cases.ensures.every _ _))

pub truth-returns-in-Any : goal.truth-returns-in-Any
truth-returns-in-Any n c = rw c.in-Any.is ((rw c.as_slice-in-Any.ensures at c.any.ensures) ∙ sym (c.found_by_cases.ensures.any _ _))

pub every-returns-then-is : goal.every-returns-then-is
every-returns-then-is n c = and-stops _ _ _ (c.if-is.ensures.0 refl) c.loop-cond.invariant

pub every-loop-cond-preserved : goal.every-loop-cond-preserved
every-loop-cond-preserved n c =
    let says = found_truth (pairs_at c.args.self.now c.args.group.now) in
    rw (c.truth_and-truth.ensures, c.truth.ensures)
    (every-more says c.args.conds.now c.loop-cond.cond-index c.cond-item.result c.loop-cond.truth _ c.loop-cond-test.true c.cond-item.is c.loop-cond.invariant)

pub every-returns : goal.every-returns
every-returns n c =
    let says = found_truth (pairs_at c.args.self.now c.args.group.now) in
    sym (c.loop-cond.invariant ∙ ap (λ l. truth_and c.loop-cond.truth (truth_every (map says l))) (drop_all _ _ c.loop-cond-test.false) ∙ and-true _)

pub any-returns-then-is : goal.any-returns-then-is
any-returns-then-is n c = or-stops _ _ _ (c.if-is.ensures.0 refl) c.loop-cond.invariant

pub any-loop-cond-preserved : goal.any-loop-cond-preserved
any-loop-cond-preserved n c =
    let says = found_truth (pairs_at c.args.self.now c.args.group.now) in
    rw (c.truth_or-truth.ensures, c.truth.ensures)
    (any-more says c.args.conds.now c.loop-cond.cond-index c.cond-item.result c.loop-cond.truth _ c.loop-cond-test.true c.cond-item.is c.loop-cond.invariant)

pub any-returns : goal.any-returns
any-returns n c =
    let says = found_truth (pairs_at c.args.self.now c.args.group.now) in
    sym (c.loop-cond.invariant ∙ ap (λ l. truth_or c.loop-cond.truth (truth_any (map says l))) (drop_all _ _ c.loop-cond-test.false) ∙ or-false _)
