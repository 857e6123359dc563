use Rattle.ov_model.proofs.Worked.{all_print, all_plans, file_is, wide_is, repeated_is}
use Rattle.ov_model.proofs.examples.worked_examples.Goals as goal

pub returns-clause-print : goal.returns-clause-print
returns-clause-print c = all_print

pub returns-clause-file : goal.returns-clause-file
returns-clause-file c = file_is

pub returns-clause-wide : goal.returns-clause-wide
returns-clause-wide c = wide_is

pub returns-clause-repeated : goal.returns-clause-repeated
returns-clause-repeated c = repeated_is

pub returns-clause-plans : goal.returns-clause-plans
returns-clause-plans c = all_plans
