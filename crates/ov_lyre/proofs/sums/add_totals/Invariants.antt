use Rattle.std.proofs.Common.{◌≡◌, ◌≤◌, ◌*◌, ◌^◌, take}
use Rattle.ov_graph.specs.Trees.{tree_of, fresh, total}
use Rattle.ov_lyre.proofs.sums.add_totals.Given as goal

abbrev pub invariant-loop-vid : goal.invariant-loop-vid
invariant-loop-vid l =
    (l.records ≡ total (fresh (tree_of l.nodes)) (take l.vid-index l.part)) × (l.members ≡ total (tree_of l.nodes).records (take l.vid-index l.part))
    × (l.records ≤ l.vid-index * 2 ^ 32) × (l.members ≤ l.vid-index * 2 ^ 32)
