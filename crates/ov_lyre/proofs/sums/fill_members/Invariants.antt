use Rattle.std.proofs.Common.{take}
use Rattle.ov_graph.specs.Trees.{tree_of}
use Rattle.ov_lyre.specs.Sums.{Stands}
use Rattle.ov_lyre.proofs.sums.fill_members.Given as goal

abbrev pub invariant-loop-vid : goal.invariant-loop-vid
invariant-loop-vid l = Stands (tree_of l.nodes).records (take l.vid-index l.part) l.members
