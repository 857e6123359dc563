use Rattle.law_room.proofs.Checkpoints.{within_taken}
use Rattle.law_room.proofs.Room.{within_dropped, within_made, within_recorded}
use Rattle.law_room.proofs.laws.what_is_kept_grows_by_what_is_written.Goals as goal

pub returns-clause-made : goal.returns-clause-made
returns-clause-made c = within_made

pub returns-clause-dropped : goal.returns-clause-dropped
returns-clause-dropped c = within_dropped

pub returns-clause-recorded : goal.returns-clause-recorded
returns-clause-recorded c = within_recorded

pub returns-clause-taken : goal.returns-clause-taken
returns-clause-taken c = within_taken
