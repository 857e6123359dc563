use Rattle.law_budget.proofs.Told.{table_is}
use Rattle.law_budget.proofs.laws.the_table_is_the_datasets.Goals as goal

pub returns : goal.returns
returns c = table_is
