use Rattle.ov_memhost.proofs.Allowed.{stop_since}
use Rattle.ov_memhost.proofs.laws.stops_in_a_call_are_since_it_began.Goals as goal

pub returns : goal.returns
returns c = stop_since
