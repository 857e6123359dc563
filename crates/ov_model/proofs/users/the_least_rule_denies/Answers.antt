use Rattle.ov_model.proofs.Ruling.{least-denies, silent-permits, denial-alone}
use Rattle.ov_model.proofs.users.the_least_rule_denies.Goals as goal

pub returns-clause-denied : goal.returns-clause-denied
returns-clause-denied c = least-denies

pub returns-clause-silent : goal.returns-clause-silent
returns-clause-silent c = silent-permits

pub returns-clause-alone : goal.returns-clause-alone
returns-clause-alone c = denial-alone
