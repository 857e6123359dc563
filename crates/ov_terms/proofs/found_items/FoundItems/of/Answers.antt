use Rattle.ov_terms.proofs.found_items.FoundItems.of.Goals as goal

pub returns-in_ok-terms-in-Terms : goal.returns-in_ok-terms-in-Terms
returns-in_ok-terms-in-Terms c = λ group. rw (c.in-Terms.is, c.from_vec.ensures) (rw c.as_slice.ensures at c.in_ok-terms-in-Terms.ensures group)
