use Rattle.ov_catalog.proofs.Good.{good}
use Rattle.ov_catalog.proofs.Moving as moving
use Rattle.ov_catalog.proofs.laws.events_are_moves.Goals as goal

pub returns-clause-moves : goal.returns-clause-moves
returns-clause-moves c = λ m w e reached fits said. moving.events_are_moves m w fits (good w reached) e said

pub returns-clause-one : goal.returns-clause-one
returns-clause-one c = moving.one_event
