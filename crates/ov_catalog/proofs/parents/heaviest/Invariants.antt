use Rattle.std.proofs.Common.{◌≡◌, ◌≤◌, drop, length}
use Rattle.ov_graph.specs.Versions.{heaviest}
use Rattle.ov_catalog.proofs.parents.heaviest.Given as goal

abbrev pub invariant-loop-at : goal.invariant-loop-at
invariant-loop-at l = (l.kept ≡ heaviest (drop l.at l.parents)) × (l.at ≤ length l.parents)

abbrev pub decreases-loop-at : goal.decreases-loop-at
decreases-loop-at l = l.at
