use Rattle.law_room.proofs.Known.{drop_lacks_no_run, taken_once, written_once}
use Rattle.law_room.proofs.Room.{bare_lacks_no_run}
use Rattle.law_room.proofs.laws.what_a_move_writes_is_one_thing.Goals as goal

pub returns-clause-one : goal.returns-clause-one
returns-clause-one c = written_once

pub returns-clause-taken : goal.returns-clause-taken
returns-clause-taken c = taken_once

pub returns-clause-drop : goal.returns-clause-drop
returns-clause-drop c = drop_lacks_no_run

pub returns-clause-bare : goal.returns-clause-bare
returns-clause-bare c = bare_lacks_no_run
