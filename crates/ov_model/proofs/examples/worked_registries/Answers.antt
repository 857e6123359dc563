use Rattle.ov_model.proofs.RegistryWorked.{all_foreign, all_by_hand, all_full}
use Rattle.ov_model.proofs.examples.worked_registries.Goals as goal

pub returns-clause-foreign : goal.returns-clause-foreign
returns-clause-foreign c = all_foreign

pub returns-clause-by_hand : goal.returns-clause-by_hand
returns-clause-by_hand c = all_by_hand

pub returns-clause-full : goal.returns-clause-full
returns-clause-full c = all_full
