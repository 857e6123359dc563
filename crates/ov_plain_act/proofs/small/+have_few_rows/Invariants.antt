use Rattle.std.proofs.Common.{length}
use Rattle.ov_plain_act.proofs.small.+have_few_rows.Given as goal

abbrev pub decreases-have_few_rows : goal.decreases-have_few_rows
decreases-have_few_rows l = length l.versions.now
