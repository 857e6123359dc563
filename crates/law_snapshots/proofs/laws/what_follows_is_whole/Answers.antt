use Rattle.law_snapshots.proofs.Carrying.{all_whole, nothing_whole, one_carried, one_whole}
use Rattle.law_snapshots.proofs.laws.what_follows_is_whole.Goals as goal

pub returns-clause-start : goal.returns-clause-start
returns-clause-start c = nothing_whole

pub returns-clause-one : goal.returns-clause-one
returns-clause-one c = one_carried

pub returns-clause-all : goal.returns-clause-all
returns-clause-all c = all_whole

pub returns-clause-each : goal.returns-clause-each
returns-clause-each c = one_whole
