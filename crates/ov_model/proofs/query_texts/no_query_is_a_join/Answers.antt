use Rattle.ov_model.proofs.Deciding.{no_query_joins}
use Rattle.ov_model.proofs.query_texts.no_query_is_a_join.Goals as goal

pub returns : goal.returns
returns c = no_query_joins
