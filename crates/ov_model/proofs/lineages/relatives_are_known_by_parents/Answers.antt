use Rattle.ov_model.proofs.KnownBy.{relatives-like}
use Rattle.ov_model.proofs.lineages.relatives_are_known_by_parents.Goals as goal

pub returns : goal.returns
returns c = relatives-like
