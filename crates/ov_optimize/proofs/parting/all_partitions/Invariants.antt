use Rattle.std.proofs.Common.{take}
use Rattle.ov_optimize.proofs.Partitions.{HasPartitions}
use Rattle.ov_optimize.proofs.parting.all_partitions.Given as goal

abbrev pub invariant-loop-part : goal.invariant-loop-part
invariant-loop-part g l = HasPartitions (g.H.Host.state l.fn.host) (g.H.Host.state l.host) l.d (take l.part-index l.parts) l.partitions.items
