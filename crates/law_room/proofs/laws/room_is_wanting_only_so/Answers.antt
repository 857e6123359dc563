use Rattle.law_room.proofs.Checkpoints.{checkpoint_is_licensed}
use Rattle.law_room.proofs.Room.{bare_is_licensed, drop_is_licensed, full_is_licensed, passes_is_licensed}
use Rattle.law_room.proofs.laws.room_is_wanting_only_so.Goals as goal

pub returns-clause-run : goal.returns-clause-run
returns-clause-run c = full_is_licensed

pub returns-clause-record_ : goal.returns-clause-record_
returns-clause-record_ c = passes_is_licensed

pub returns-clause-drop : goal.returns-clause-drop
returns-clause-drop c = drop_is_licensed

pub returns-clause-bare : goal.returns-clause-bare
returns-clause-bare c = bare_is_licensed

pub returns-clause-checkpoint : goal.returns-clause-checkpoint
returns-clause-checkpoint c = checkpoint_is_licensed
