use Rattle.law_steps.proofs.Firsts.{next_fits, next_of, copy_of_next}
use Rattle.law_steps.proofs.turning.the_next_step_fits.Goals as goal

pub returns-clause-fits : goal.returns-clause-fits
returns-clause-fits c = next_fits

pub returns-clause-turn : goal.returns-clause-turn
returns-clause-turn c = next_of

pub returns-clause-copy : goal.returns-clause-copy
returns-clause-copy c = copy_of_next
