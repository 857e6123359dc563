-- One condition more, and all of them.
use Rattle.ov_terms.specs.Finding.{IsOfRow}
use Rattle.ov_terms.proofs.Found.{all-more, all-of}
use Rattle.ov_terms.proofs.OfRows.{any-of-row, every-of-row, not-of-row}
use Rattle.ov_terms.proofs.of_rows.+is_of_row.Goals as goal

pub are_of_rows-loop-cond-preserved : goal.are_of_rows-loop-cond-preserved
are_of_rows-loop-cond-preserved n c =
    all-more IsOfRow _ _ _ c.loop-cond-test.true c.cond-item.is (c.is_of_row.ensures c.if-not-is_of_row.false) c.loop-cond.invariant

pub are_of_rows-returns : goal.are_of_rows-returns
are_of_rows-returns n c = λ _. all-of IsOfRow _ _ c.loop-cond-test.false c.loop-cond.invariant

pub is_of_row-returns-in-Not : goal.is_of_row-returns-in-Not
is_of_row-returns-in-Not n c = λ true. rw c.in-Not.is (not-of-row _ (rw c.get.ensures at c.is_of_row-in-Not.ensures true))

pub is_of_row-returns-in-Every : goal.is_of_row-returns-in-Every
is_of_row-returns-in-Every n c = λ true. rw c.in-Every.is (every-of-row _ (rw c.as_slice.ensures at c.are_of_rows.ensures true))

pub is_of_row-returns-in-Any : goal.is_of_row-returns-in-Any
is_of_row-returns-in-Any n c = λ true. rw c.in-Any.is (any-of-row _ (rw c.as_slice-in-Any.ensures at c.are_of_rows-in-Any.ensures true))
