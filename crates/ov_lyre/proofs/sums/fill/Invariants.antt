use Rattle.std.proofs.Common.{take}
use Rattle.ov_graph.specs.Trees.{tree_of, fresh}
use Rattle.ov_lyre.specs.Sums.{Stands}
use Rattle.ov_lyre.proofs.sums.fill.Given as goal

abbrev pub invariant-loop-vid : goal.invariant-loop-vid
invariant-loop-vid l = Stands (λ _. 1) (take l.vid-index l.part) l.counts × Stands (fresh (tree_of l.nodes)) (take l.vid-index l.part) l.sums
