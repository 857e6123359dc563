use Rattle.ov_tally.proofs.Ties.{low_counted}
use Rattle.ov_tally.proofs.laws.low_count.Goals as goal

pub returns : goal.returns
returns c = low_counted
