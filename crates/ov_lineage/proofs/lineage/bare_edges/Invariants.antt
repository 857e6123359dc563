use Rattle.std.proofs.Common.{◌≡◌, map, take}
use Rattle.ov_lineage.specs.Bare.{bare_edge}
use Rattle.ov_lineage.proofs.lineage.bare_edges.Given as goal

abbrev pub invariant-loop-parent : goal.invariant-loop-parent
invariant-loop-parent l = l.edges.items ≡ map bare_edge (take l.parent-index l.parents)
