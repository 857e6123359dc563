use Rattle.ov_model.proofs.JoinsAnswered.{all_joined}
use Rattle.ov_model.proofs.examples.worked_joins.Goals as goal

pub returns : goal.returns
returns c = all_joined
