use Rattle.ov_model.proofs.Descents.{relatives-are}
use Rattle.ov_model.proofs.lineages.relatives_are_the_transitive_closure.Goals as goal

pub returns : goal.returns
returns c = relatives-are
