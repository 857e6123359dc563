use Rattle.ov_plain.proofs.tree.+is_under_in.Given as goal

abbrev pub decreases-is_under_in : goal.decreases-is_under_in
decreases-is_under_in l = l.steps
