use Rattle.std.proofs.Common.{◌∙◌, sym}
use Rattle.ov_model.proofs.Asked.{lineages-compare, lineages-null, lineages-lineage, lineages-list, lineages-not, lineages-every, lineages-any}
use Rattle.ov_terms.proofs.Free.{each-free, all-free}
use Rattle.ov_terms.proofs.lineages.free_by_cases.Goals as goal

pub returns-clause-compare : goal.returns-clause-compare
returns-clause-compare c = lineages-compare

pub returns-clause-null : goal.returns-clause-null
returns-clause-null c = lineages-null

pub returns-clause-lineage : goal.returns-clause-lineage
returns-clause-lineage c = λ kind vid negated none. cc (sym (lineages-lineage kind vid negated) ∙ none)

pub returns-clause-listed : goal.returns-clause-listed
returns-clause-listed c = lineages-list

pub returns-clause-not_ : goal.returns-clause-not_
returns-clause-not_ c = λ cond. ((λ none. sym (lineages-not cond) ∙ none), (λ none. lineages-not cond ∙ none))

pub returns-clause-every : goal.returns-clause-every
returns-clause-every c = λ conds. ((λ none. each-free conds (sym (lineages-every conds) ∙ none)), (λ all. lineages-every conds ∙ all-free conds all))

pub returns-clause-any : goal.returns-clause-any
returns-clause-any c = λ conds. ((λ none. each-free conds (sym (lineages-any conds) ∙ none)), (λ all. lineages-any conds ∙ all-free conds all))
