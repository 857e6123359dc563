use Rattle.ov_event.proofs.Events.{spelled_once}
use Rattle.ov_event.proofs.laws.one_event.Goals as goal

pub returns : goal.returns
returns c = spelled_once
