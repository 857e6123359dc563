use Rattle.ov_model.proofs.Denials.{denied-exactly}
use Rattle.ov_model.proofs.users.rules_decide_who_may.Goals as goal

pub returns-clause-exactly : goal.returns-clause-exactly
returns-clause-exactly c = denied-exactly
