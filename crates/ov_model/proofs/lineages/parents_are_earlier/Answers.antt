use Rattle.ov_model.proofs.Earlier.{moved-early}
use Rattle.ov_model.proofs.lineages.parents_are_earlier.Goals as goal

pub returns-clause-kept : goal.returns-clause-kept
returns-clause-kept c = moved-early
