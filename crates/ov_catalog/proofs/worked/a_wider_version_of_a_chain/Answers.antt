use Rattle.ov_catalog.proofs.WorkedChains.{wide_format_off, wide_applies, wide_numbers}
use Rattle.ov_catalog.proofs.worked.a_wider_version_of_a_chain.Goals as goal

pub returns-clause-format_one : goal.returns-clause-format_one
returns-clause-format_one c = wide_format_off

pub returns-clause-applies : goal.returns-clause-applies
returns-clause-applies c = wide_applies

pub returns-clause-numbers : goal.returns-clause-numbers
returns-clause-numbers c = wide_numbers
