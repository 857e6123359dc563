use Rattle.ov_model.proofs.Copying.{copy_brings}
use Rattle.ov_model.proofs.plan_examples.a_copy_brings_256_records_at_most.Goals as goal

pub returns : goal.returns
returns c = copy_brings
