use Rattle.std.proofs.Common.{refl}
use Rattle.ov_catalog.proofs.WorkedLemmas.{empty-move}
use Rattle.law_events.proofs.applying.an_empty_dataset_is_sound.Goals as goal

pub returns-clause-sound : goal.returns-clause-sound
returns-clause-sound c = (refl, refl)

pub returns-clause-spells : goal.returns-clause-spells
returns-clause-spells c = λ r read. (empty-move 2 r read).spells
