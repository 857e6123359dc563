use Rattle.std.proofs.Common.{◌≡◌, take}
use Rattle.ov_lineage.specs.Bare.{bare_graph}
use Rattle.ov_lineage.specs.Related.{lists_of}
use Rattle.ov_lineage.proofs.lineage.Lineage.of.Given as goal

abbrev pub invariant-loop-vids : goal.invariant-loop-vids
invariant-loop-vids l = (l.kept ≡ take l.vids-index (lists_of l.parents)) × (l.graph ≡ bare_graph (take l.vids-index (lists_of l.parents)))
