use Rattle.std.proofs.Common.{length}
use Rattle.ov_plain_act.proofs.tables.+own_shown.Given as goal

abbrev pub decreases-own_shown : goal.decreases-own_shown
decreases-own_shown l = length l.rows.now
