use Rattle.ov_plain_act.proofs.running.+and_steps.Given as goal

abbrev pub decreases-and_steps : goal.decreases-and_steps
decreases-and_steps l = l.count
