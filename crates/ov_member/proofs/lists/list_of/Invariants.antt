use Rattle.std.proofs.Common.{◌≡◌, ◌++◌, length}
use Rattle.ov_member.specs.Lists.{bytes_of}
use Rattle.ov_member.specs.Edges.{Ascend, ranges_between}
use Rattle.ov_member.proofs.lists.list_of.Given as goal

abbrev pub invariant-loop-rest : goal.invariant-loop-rest
invariant-loop-rest l = (l.bytes.items ++ bytes_of (ranges_between l.rest) ≡ bytes_of (ranges_between l.fn.edges)) × Ascend 0 l.rest

abbrev pub decreases-loop-rest : goal.decreases-loop-rest
decreases-loop-rest l = length l.rest
