use Rattle.ov_catalog.proofs.WorkedChains.{half_follows, half_gives, half_numbers}
use Rattle.ov_catalog.proofs.worked.a_migration_of_a_chain.Goals as goal

pub returns-clause-follows : goal.returns-clause-follows
returns-clause-follows c = half_follows

pub returns-clause-given : goal.returns-clause-given
returns-clause-given c = half_gives

pub returns-clause-numbers : goal.returns-clause-numbers
returns-clause-numbers c = half_numbers
