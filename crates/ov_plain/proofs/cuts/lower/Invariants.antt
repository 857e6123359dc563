use Rattle.std.proofs.Common.{◌≡◌, ◌≤◌, take, length}
use Rattle.ov_graph.specs.Trees.{tree_of}
use Rattle.ov_graph.specs.Splits.{lower}
use Rattle.ov_plain.proofs.cuts.lower.Given as goal

abbrev pub invariant-loop-version : goal.invariant-loop-version
invariant-loop-version l = (l.below.items ≡ lower (tree_of l.nodes) l.vid (take l.version-index l.part)) × (length l.below.items ≤ l.version-index)
