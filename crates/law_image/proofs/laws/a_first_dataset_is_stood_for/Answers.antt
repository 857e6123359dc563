use Rattle.law_image.proofs.Worked.{the_image_stands}
use Rattle.law_image.proofs.laws.a_first_dataset_is_stood_for.Goals as goal

pub returns : goal.returns
returns c = the_image_stands
