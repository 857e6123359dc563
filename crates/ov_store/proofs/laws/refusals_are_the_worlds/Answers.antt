use Rattle.ov_store.proofs.Refusing.{new_refused, vids_refused}
use Rattle.ov_store.proofs.laws.refusals_are_the_worlds.Goals as goal

pub returns-clause-new : goal.returns-clause-new
returns-clause-new c = λ r n w name e. new_refused r n w name e

pub returns-clause-vids : goal.returns-clause-vids
returns-clause-vids c = λ name count before vids. vids_refused name count before vids
