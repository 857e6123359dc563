use Rattle.ov_model.proofs.Asked.{lineages-compare, lineages-null, lineages-lineage, lineages-list, lineages-not, lineages-every, lineages-any}
use Rattle.ov_model.proofs.asking.lineages_by_cases.Goals as goal

pub returns-clause-compare : goal.returns-clause-compare
returns-clause-compare c = lineages-compare

pub returns-clause-null : goal.returns-clause-null
returns-clause-null c = lineages-null

pub returns-clause-lineage : goal.returns-clause-lineage
returns-clause-lineage c = lineages-lineage

pub returns-clause-listed : goal.returns-clause-listed
returns-clause-listed c = lineages-list

pub returns-clause-not_ : goal.returns-clause-not_
returns-clause-not_ c = lineages-not

pub returns-clause-every : goal.returns-clause-every
returns-clause-every c = lineages-every

pub returns-clause-any : goal.returns-clause-any
returns-clause-any c = lineages-any
