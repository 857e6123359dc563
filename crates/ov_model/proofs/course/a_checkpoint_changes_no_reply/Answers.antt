use Rattle.ov_model.proofs.Alike.{checkpoint_same}
use Rattle.ov_model.proofs.course.a_checkpoint_changes_no_reply.Goals as goal

pub returns : goal.returns
returns c = checkpoint_same
