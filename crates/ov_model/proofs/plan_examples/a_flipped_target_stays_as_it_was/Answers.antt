use Rattle.ov_model.proofs.Worked.{second_is}
use Rattle.ov_model.proofs.plan_examples.a_flipped_target_stays_as_it_was.Goals as goal

pub returns : goal.returns
returns c = second_is
