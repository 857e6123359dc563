use Rattle.std.proofs.Common.{length}
use Rattle.ov_answers.proofs.order.+list_order.Given as goal

abbrev pub decreases-list_order : goal.decreases-list_order
decreases-list_order l = length l.a.now
