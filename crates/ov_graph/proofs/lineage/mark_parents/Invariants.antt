use Rattle.std.proofs.Common.{◌≡◌, ℕ, ◌+◌, false, ◌||◌, take, get_or}
use Rattle.ov_graph.specs.Versions.{names}
use Rattle.ov_graph.proofs.lineage.mark_parents.Given as goal

abbrev pub invariant-loop-parent : goal.invariant-loop-parent
invariant-loop-parent l = (k : ℕ) → get_or l.marks k false ≡ (get_or l.initial.marks k false || names (take l.parent-index l.parents) (k + 1))
