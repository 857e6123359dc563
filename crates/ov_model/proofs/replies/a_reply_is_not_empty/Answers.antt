use Rattle.ov_model.proofs.Replying.{text_some}
use Rattle.ov_model.proofs.replies.a_reply_is_not_empty.Goals as goal

pub returns : goal.returns
returns c = text_some
