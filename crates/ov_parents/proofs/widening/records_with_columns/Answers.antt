use Rattle.ov_parents.proofs.Longer.{agree_with, fit_with, order_with, stored_with}
use Rattle.ov_parents.proofs.widening.records_with_columns.Goals as goal

pub returns-clause-agree : goal.returns-clause-agree
returns-clause-agree c = λ d vids added parents agree. agree_with d vids added parents agree

pub returns-clause-order : goal.returns-clause-order
returns-clause-order c = order_with

pub returns-clause-fit : goal.returns-clause-fit
returns-clause-fit c = fit_with

pub returns-clause-stored : goal.returns-clause-stored
returns-clause-stored c = stored_with
