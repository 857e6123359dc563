use Rattle.std.proofs.Common.{length}
use Rattle.ov_pages.proofs.FreeLemmas.{Looked}
use Rattle.ov_pages.proofs.edges.lowest_run.Given as goal

abbrev pub invariant-loop-rest : goal.invariant-loop-rest
invariant-loop-rest l = Looked l.fn.edges l.n l.low l.rest

abbrev pub decreases-loop-rest : goal.decreases-loop-rest
decreases-loop-rest l = length l.rest
