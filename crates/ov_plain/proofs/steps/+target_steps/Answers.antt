use Rattle.ov_plain.proofs.Stepping.{steps-more}
use Rattle.ov_plain.proofs.steps.+target_steps.Goals as goal

pub returns-in_ok-later-in-len1-up-clause-is : goal.returns-in_ok-later-in-len1-up-clause-is
returns-in_ok-later-in-len1-up-clause-is t c =
    steps-more c.args.set.now c.args.targets.now c.target-item.result c.args.copied.now c.in_ok-steps-in-len1-up.steps c.in_ok-later-in-len1-up.later c.in-len1-up.len_at_least c.target-item.is c.in_ok-steps-in-len1-up.ensures.is c.in_ok-later-in-len1-up.ensures.is
