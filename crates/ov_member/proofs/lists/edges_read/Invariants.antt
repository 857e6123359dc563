use Rattle.std.proofs.Common.{length}
use Rattle.ov_member.proofs.ReadLemmas.{Reads}
use Rattle.ov_member.proofs.lists.edges_read.Given as goal

abbrev pub invariant-loop-rest : goal.invariant-loop-rest
invariant-loop-rest l = Reads l.bytes l.edges.items l.past l.rest

abbrev pub decreases-loop-rest : goal.decreases-loop-rest
decreases-loop-rest l = length l.rest
