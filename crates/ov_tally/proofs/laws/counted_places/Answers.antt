use Rattle.ov_tally.proofs.Tallies.{counted_list}
use Rattle.ov_tally.proofs.laws.counted_places.Goals as goal

pub returns : goal.returns
returns c = counted_list
