use Rattle.ov_top.proofs.Composed.{goes_on_after}
use Rattle.ov_top.proofs.laws.a_run_goes_on_after_a_stop.Goals as goal

pub returns : goal.returns
returns c = goes_on_after
