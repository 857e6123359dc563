use Rattle.ov_model.proofs.ColumnsWorked.{all_widen, all_old}
use Rattle.ov_model.proofs.examples.worked_columns.Goals as goal

pub returns-clause-widen : goal.returns-clause-widen
returns-clause-widen c = all_widen

pub returns-clause-old : goal.returns-clause-old
returns-clause-old c = all_old
