use Rattle.ov_catalog.proofs.Standing.{one_more}
use Rattle.ov_catalog.proofs.laws.one_more_event.Goals as goal

pub returns : goal.returns
returns c = one_more
