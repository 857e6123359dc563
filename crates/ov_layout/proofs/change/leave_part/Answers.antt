use Rattle.ov_layout.proofs.VidLemmas.{length-filter-le, saved-and-left}
use Rattle.ov_layout.proofs.change.leave_part.Goals as goal

pub overflow_sub-gone : goal.overflow_sub-gone
overflow_sub-gone c = rw (c.as_slice.ensures, c.leave.ensures, c.as_slice-before.ensures) (length-filter-le _ _)

pub returns-clause-saved : goal.returns-clause-saved
returns-clause-saved c = rw (c.as_slice.ensures, c.as_slice-before.ensures, c.from.ensures) (saved-and-left _ _ _ (rw c.leave.ensures (length-filter-le _ _)))
