use Rattle.ov_catalog.proofs.WorkedChains.{copy_applies, copy_short_off, copy_numbers, flip_applies, flip_early_off, flip_numbers}
use Rattle.ov_catalog.proofs.worked.steps_of_a_chain.Goals as goal

pub returns-clause-copy : goal.returns-clause-copy
returns-clause-copy c = copy_applies

pub returns-clause-copy_short : goal.returns-clause-copy_short
returns-clause-copy_short c = copy_short_off

pub returns-clause-copied : goal.returns-clause-copied
returns-clause-copied c = copy_numbers

pub returns-clause-flip : goal.returns-clause-flip
returns-clause-flip c = flip_applies

pub returns-clause-flip_early : goal.returns-clause-flip_early
returns-clause-flip_early c = flip_early_off

pub returns-clause-flipped : goal.returns-clause-flipped
returns-clause-flipped c = flip_numbers
