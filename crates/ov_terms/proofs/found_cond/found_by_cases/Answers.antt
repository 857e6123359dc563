use Rattle.ov_terms.proofs.FoundTruths.{truth-compare, truth-null, truth-list, truth-not, truth-every, truth-any}
use Rattle.ov_terms.proofs.found_cond.found_by_cases.Goals as goal

pub returns-clause-compare : goal.returns-clause-compare
returns-clause-compare c = truth-compare

pub returns-clause-null : goal.returns-clause-null
returns-clause-null c = truth-null

pub returns-clause-listed : goal.returns-clause-listed
returns-clause-listed c = truth-list

pub returns-clause-not_ : goal.returns-clause-not_
returns-clause-not_ c = truth-not

pub returns-clause-every : goal.returns-clause-every
returns-clause-every c = truth-every

pub returns-clause-any : goal.returns-clause-any
returns-clause-any c = truth-any
