use Rattle.law_events.proofs.Moves.{is_move}
use Rattle.law_events.proofs.applying.an_event_that_spells_a_move_is_its_event.Goals as goal

pub returns : goal.returns
returns c = is_move
