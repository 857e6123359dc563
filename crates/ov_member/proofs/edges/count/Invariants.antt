use Rattle.std.proofs.Common.{◌≡◌, ◌+◌, length}
use Rattle.ov_member.specs.Edges.{Ascend, rids_between}
use Rattle.ov_member.proofs.edges.count.Given as goal

abbrev pub invariant-loop-rest : goal.invariant-loop-rest
invariant-loop-rest l = (l.count + length (rids_between l.rest) ≡ length (rids_between l.fn.edges)) × Ascend 0 l.rest

abbrev pub decreases-loop-rest : goal.decreases-loop-rest
decreases-loop-rest l = length l.rest
