use Rattle.ov_model.proofs.AllFormed.{all_ask, line_asks}
use Rattle.ov_model.proofs.formed.lines_ask_what_forms_read.Goals as goal

pub returns-clause-line : goal.returns-clause-line
returns-clause-line c = line_asks

pub returns-clause-lines : goal.returns-clause-lines
returns-clause-lines c = all_ask
