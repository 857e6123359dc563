use Rattle.ov_model.proofs.AskedOnce.{asks_this}
use Rattle.ov_model.proofs.query_texts.a_text_asks_what_is_computed.Goals as goal

pub returns : goal.returns
returns c = asks_this
