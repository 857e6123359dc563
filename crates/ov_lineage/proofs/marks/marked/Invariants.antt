use Rattle.std.proofs.Common.{◌≡◌, ◌-◌, false, filter, get_or}
use Rattle.ov_graph.specs.Trees.{vids}
use Rattle.ov_lineage.proofs.marks.marked.Given as goal

abbrev pub invariant-loop-index : goal.invariant-loop-index
invariant-loop-index l = l.vids.items ≡ filter (λ vid. get_or l.marks (vid - 1) false) (vids l.index)
