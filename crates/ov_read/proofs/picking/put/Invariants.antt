use Rattle.ov_read.specs.Gathering.{ArePut}
use Rattle.ov_read.proofs.picking.put.Given as goal

abbrev pub invariant-loop-k : goal.invariant-loop-k
invariant-loop-k l = ArePut l.k l.base l.group l.more l.fn.picks.items l.picks.items
