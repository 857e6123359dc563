use Rattle.std.proofs.Common.{◌*◌, ◌≤◌, length, vec_capacity}
use Rattle.ov_pages.proofs.BuildLemmas.{Built}
use Rattle.ov_pages.proofs.live.edges_of.Given as goal

abbrev pub invariant-loop-run : goal.invariant-loop-run
invariant-loop-run l = Built l.runs l.run-index l.edges.items l.past × (4 * length l.runs ≤ vec_capacity l.edges)
