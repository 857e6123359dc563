use Rattle.ov_plain_act.proofs.stepping.+next_steps.Given as goal

abbrev pub decreases-next_steps : goal.decreases-next_steps
decreases-next_steps l = l.count
