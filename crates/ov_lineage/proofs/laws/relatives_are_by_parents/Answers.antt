use Rattle.ov_model.proofs.KnownBy.{relatives-like}
use Rattle.ov_lineage.proofs.laws.relatives_are_by_parents.Goals as goal

pub returns-clause-in_dataset : goal.returns-clause-in_dataset
returns-clause-in_dataset c = relatives-like
