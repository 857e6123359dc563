use Rattle.std.proofs.Common.{ℕ, suc, ◌<◌, get_or}
use Rattle.ov_graph.specs.Trees.{IsTreeEdge, no_node}
use Rattle.test_budget.proofs.datasets.is_sound.Given as goal

abbrev pub invariant-loop-k : goal.invariant-loop-k
invariant-loop-k l = (j : ℕ) → 0 < j → j < l.k → IsTreeEdge l.nodes (suc j) (get_or l.nodes j no_node)
