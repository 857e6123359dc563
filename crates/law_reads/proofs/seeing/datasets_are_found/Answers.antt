use Rattle.law_reads.proofs.Founds.{by_name, by_no_name, by_number, by_no_number}
use Rattle.law_reads.proofs.seeing.datasets_are_found.Goals as goal

pub returns-clause-named : goal.returns-clause-named
returns-clause-named c = by_name

pub returns-clause-not_named : goal.returns-clause-not_named
returns-clause-not_named c = by_no_name

pub returns-clause-numbered : goal.returns-clause-numbered
returns-clause-numbered c = by_number

pub returns-clause-not_numbered : goal.returns-clause-not_numbered
returns-clause-not_numbered c = by_no_number
