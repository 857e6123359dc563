use Rattle.ov_core.proofs.Roomy.{not_full}
use Rattle.ov_core.proofs.laws.runs_that_are_there_are_found.Goals as goal

pub returns : goal.returns
returns c = not_full
