use Rattle.law_events.proofs.Moves.{move_applies}
use Rattle.law_events.proofs.applying.the_event_of_a_move_applies.Goals as goal

pub returns : goal.returns
returns c = move_applies
