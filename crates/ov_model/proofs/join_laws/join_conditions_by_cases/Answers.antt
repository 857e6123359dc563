use Rattle.ov_model.proofs.Wide.{wide-compare, wide-null, wide-lineage, wide-list, wide-not, wide-every, wide-any}
use Rattle.ov_model.proofs.join_laws.join_conditions_by_cases.Goals as goal

pub returns-clause-compare : goal.returns-clause-compare
returns-clause-compare c = wide-compare

pub returns-clause-null : goal.returns-clause-null
returns-clause-null c = wide-null

pub returns-clause-lineage : goal.returns-clause-lineage
returns-clause-lineage c = wide-lineage

pub returns-clause-listed : goal.returns-clause-listed
returns-clause-listed c = wide-list

pub returns-clause-not_ : goal.returns-clause-not_
returns-clause-not_ c = wide-not

pub returns-clause-every : goal.returns-clause-every
returns-clause-every c = wide-every

pub returns-clause-any : goal.returns-clause-any
returns-clause-any c = wide-any
