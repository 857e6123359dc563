use Rattle.ov_answers.proofs.pairing.+counted.Given as goal

abbrev pub decreases-counted : goal.decreases-counted
decreases-counted l = l.count
