use Rattle.law_image.proofs.Checkpointed.{next_stands, old_stands}
use Rattle.law_image.proofs.laws.a_checkpoint_stands.Goals as goal

pub returns-clause-next : goal.returns-clause-next
returns-clause-next c kept next events snapshot w old new stands is = next_stands kept next events snapshot w old new is stands

pub returns-clause-old : goal.returns-clause-old
returns-clause-old c kept next events snapshot w old new stands is = old_stands kept next events snapshot w old new is stands
