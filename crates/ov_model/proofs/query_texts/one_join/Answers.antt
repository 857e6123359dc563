use Rattle.ov_model.proofs.Deciding.{one_join_is}
use Rattle.ov_model.proofs.query_texts.one_join.Goals as goal

pub returns : goal.returns
returns c = one_join_is
