use Rattle.ov_model.proofs.Truths.{counted-compare, counted-null, counted-lineage, counted-list, counted-not, counted-every, counted-any}
use Rattle.ov_model.proofs.conditions.comparisons_by_cases.Goals as goal

pub returns-clause-compare : goal.returns-clause-compare
returns-clause-compare c = counted-compare

pub returns-clause-null : goal.returns-clause-null
returns-clause-null c = counted-null

pub returns-clause-lineage : goal.returns-clause-lineage
returns-clause-lineage c = counted-lineage

pub returns-clause-listed : goal.returns-clause-listed
returns-clause-listed c = counted-list

pub returns-clause-not_ : goal.returns-clause-not_
returns-clause-not_ c = counted-not

pub returns-clause-every : goal.returns-clause-every
returns-clause-every c = counted-every

pub returns-clause-any : goal.returns-clause-any
returns-clause-any c = counted-any
