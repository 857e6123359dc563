use Rattle.law_generated.proofs.Steps.{has_begun}
use Rattle.law_generated.proofs.laws.a_generated_dataset_begins.Goals as goal

pub returns : goal.returns
returns c = λ w name count seed none. has_begun w name count seed none
