use Rattle.law_generated.proofs.Steps.{has_more, parent_grown}
use Rattle.law_generated.proofs.laws.a_generated_dataset_grows.Goals as goal

pub returns-clause-more : goal.returns-clause-more
returns-clause-more c = λ w name number count g h. has_more w name number count g h

pub returns-clause-parent : goal.returns-clause-parent
returns-clause-parent c = λ w name number count g h. parent_grown count g h.some h.grown
