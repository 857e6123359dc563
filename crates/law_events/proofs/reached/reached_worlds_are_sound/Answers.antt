use Rattle.law_events.proofs.Reaching.{may_move, reached_sound}
use Rattle.law_events.proofs.reached.reached_worlds_are_sound.Goals as goal

pub returns-clause-may : goal.returns-clause-may
returns-clause-may c = may_move

pub returns-clause-sound : goal.returns-clause-sound
returns-clause-sound c = reached_sound
