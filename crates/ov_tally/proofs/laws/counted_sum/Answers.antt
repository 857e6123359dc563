use Rattle.ov_tally.proofs.Tallies.{counted_counts, counted_sums}
use Rattle.ov_tally.proofs.laws.counted_sum.Goals as goal

pub returns-clause-counts : goal.returns-clause-counts
returns-clause-counts c = counted_counts

pub returns-clause-sums : goal.returns-clause-sums
returns-clause-sums c = counted_sums
