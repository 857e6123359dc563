use Rattle.ov_model.proofs.Ruling.{create-once, stage-once, unstage-once}
use Rattle.ov_model.proofs.users.the_registry_changes_by_one_move.Goals as goal

pub returns-clause-create : goal.returns-clause-create
returns-clause-create c = create-once

pub returns-clause-stage : goal.returns-clause-stage
returns-clause-stage c = stage-once

pub returns-clause-unstage : goal.returns-clause-unstage
returns-clause-unstage c = unstage-once
