use Rattle.ov_plain_act.proofs.budget.+lines_from.Given as goal

abbrev pub decreases-lines_from : goal.decreases-lines_from
decreases-lines_from l = l.count
