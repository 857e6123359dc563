use Rattle.ov_host.proofs.Stops.{during_partly}
use Rattle.ov_host.proofs.laws.stops_in_a_call_include_its_failures.Goals as goal

pub returns-clause-after : goal.returns-clause-after
returns-clause-after c = during_partly
