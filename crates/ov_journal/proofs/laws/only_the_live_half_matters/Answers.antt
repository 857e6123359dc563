use Rattle.ov_journal.proofs.Halves.{live_half}
use Rattle.ov_journal.proofs.laws.only_the_live_half_matters.Goals as goal

pub returns : goal.returns
returns c = live_half
