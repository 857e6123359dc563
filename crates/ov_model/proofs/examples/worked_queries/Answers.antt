use Rattle.ov_model.proofs.Answered.{all_answered}
use Rattle.ov_model.proofs.examples.worked_queries.Goals as goal

pub returns : goal.returns
returns c = all_answered
