use Rattle.ov_answers.proofs.lineage.+relatives_from.Given as goal

abbrev pub decreases-relatives_from : goal.decreases-relatives_from
decreases-relatives_from l = l.count
