use Rattle.ov_model.proofs.BudgetsAnswered.{all_within}
use Rattle.ov_model.proofs.examples.worked_budgets.Goals as goal

pub returns : goal.returns
returns c = all_within
