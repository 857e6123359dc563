use Rattle.std.proofs.Common.{◌≤◌}
use Rattle.ov_graph.specs.Trees.{tree_of}
use Rattle.ov_lyre.proofs.KeysFacts.{AreKeysTo}
use Rattle.ov_lyre.proofs.peeling.keys_of.Given as goal

abbrev pub invariant-loop-at : goal.invariant-loop-at
invariant-loop-at l = AreKeysTo (tree_of l.summed.nodes.now) l.threshold.p l.threshold.q l.few l.summed.part.now l.at l.keys × (1 ≤ l.at)
