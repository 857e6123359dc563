-- What is made of each form of a condition says the same in the version.
use Rattle.std.proofs.Common.{◌∷◌, ◌∙◌, [], sym}
use Rattle.ov_terms.specs.Finding.{found_truth, in_version}
use Rattle.ov_terms.proofs.AtVersion.{same-any, same-every, same-not}
use Rattle.ov_terms.proofs.Found.{found-all, found-more}
use Rattle.ov_terms.proofs.table.Table.+at_version.Goals as goal

pub at_version-returns-in-Some : goal.at_version-returns-in-Some
at_version-returns-in-Some n c = λ row. c.decided.ensures (in_version c.args.vid row ∷ []) ∙ sym (rw c.in-Some.is at c.decision.ensures row)

pub at_version-returns-in_ok-inner-in-Not-2 : goal.at_version-returns-in_ok-inner-in-Not-2
at_version-returns-in_ok-inner-in-Not-2 n c =
    rw (c.in-Not.is, c.in_ok-inner-in-Not-2.ensures) (same-not c.args.vid _ _ (rw c.get.ensures at c.in_ok-inner-in-Not.ensures))

pub at_version-returns-in_ok-conds-in-Every : goal.at_version-returns-in_ok-conds-in-Every
at_version-returns-in_ok-conds-in-Every n c =
    rw c.in-Every.is (same-every c.args.vid _ _ (rw c.as_slice-in-Every.ensures at c.in_ok-conds-in-Every.ensures))

pub at_version-returns-in_ok-conds-in-Any : goal.at_version-returns-in_ok-conds-in-Any
at_version-returns-in_ok-conds-in-Any n c =
    rw c.in-Any.is (same-any c.args.vid _ _ (rw c.as_slice-in-Any.ensures at c.in_ok-conds-in-Any.ensures))

pub all_at_version-loop-cond-preserved : goal.all_at_version-loop-cond-preserved
all_at_version-loop-cond-preserved n c = λ row.
    let says = found_truth (in_version c.args.vid row ∷ []) in
    rw c.in_ok-push.ensures.ok
    (found-more says says c.loop-cond.made c.args.conds.now c.loop-cond.cond-index
    c.in_ok-at_version.field-0 c.cond-item.result c.loop-cond-test.true c.cond-item.is (c.in_ok-at_version.ensures row) (c.loop-cond.invariant row))

pub all_at_version-returns : goal.all_at_version-returns
all_at_version-returns n c = λ row.
    let says = found_truth (in_version c.args.vid row ∷ []) in
    found-all says says c.loop-cond.made c.args.conds.now c.loop-cond.cond-index c.loop-cond-test.false (c.loop-cond.invariant row)
