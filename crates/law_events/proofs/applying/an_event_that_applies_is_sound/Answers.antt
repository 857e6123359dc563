use Rattle.law_events.proofs.Asking.{applies_sound}
use Rattle.law_events.proofs.applying.an_event_that_applies_is_sound.Goals as goal

pub returns : goal.returns
returns c = applies_sound
