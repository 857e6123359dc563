use Rattle.std.proofs.Common.{length}
use Rattle.ov_plain_act.proofs.telling.+count_fresh.Given as goal

abbrev pub decreases-count_fresh : goal.decreases-count_fresh
decreases-count_fresh l = length l.recs.now
