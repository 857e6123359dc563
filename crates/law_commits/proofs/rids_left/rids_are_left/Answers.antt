use Rattle.law_commits.proofs.Room.{few_records, room_left}
use Rattle.law_commits.proofs.rids_left.rids_are_left.Goals as goal

pub returns-clause-records : goal.returns-clause-records
returns-clause-records c = few_records

pub returns-clause-room : goal.returns-clause-room
returns-clause-room c = room_left
