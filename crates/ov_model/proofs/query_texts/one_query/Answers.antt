use Rattle.ov_model.proofs.Deciding.{one_query_is}
use Rattle.ov_model.proofs.query_texts.one_query.Goals as goal

pub returns : goal.returns
returns c = one_query_is
