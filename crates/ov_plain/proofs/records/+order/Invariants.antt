use Rattle.std.proofs.Common.{length}
use Rattle.ov_plain.proofs.records.+order.Given as goal

abbrev pub decreases-order : goal.decreases-order
decreases-order l = length l.versions.now
