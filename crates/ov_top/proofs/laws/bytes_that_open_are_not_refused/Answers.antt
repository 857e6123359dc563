use Rattle.ov_top.proofs.Opened.{not_refused}
use Rattle.ov_top.proofs.laws.bytes_that_open_are_not_refused.Goals as goal

pub returns : goal.returns
returns c = not_refused
