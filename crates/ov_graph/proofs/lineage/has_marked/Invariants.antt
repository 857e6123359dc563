use Rattle.std.proofs.Common.{◌≡◌, ◌-◌, false, take, get_or}
use Rattle.std.specs.List.{list_any}
use Rattle.ov_graph.proofs.lineage.has_marked.Given as goal

abbrev pub invariant-loop-parent : goal.invariant-loop-parent
invariant-loop-parent l = list_any (λ edge. get_or l.marks (edge.0 - 1) false) (take l.parent-index l.parents) ≡ false
