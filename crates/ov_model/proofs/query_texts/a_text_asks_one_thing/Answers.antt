use Rattle.ov_model.proofs.AskedOnce.{asked_once}
use Rattle.ov_model.proofs.query_texts.a_text_asks_one_thing.Goals as goal

pub returns : goal.returns
returns c = asked_once
