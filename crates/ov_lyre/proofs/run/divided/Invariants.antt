use Rattle.std.proofs.Common.{◌<◌, length}
use Rattle.ov_graph.specs.Trees.{tree_of}
use Rattle.ov_lyre.specs.Runs.{pieces_of, RunLeads, pieces_left}
use Rattle.ov_lyre.proofs.run.divided.Given as goal

abbrev pub invariant-loop-piece : goal.invariant-loop-piece
invariant-loop-piece l =
    RunLeads (tree_of l.nodes) (length l.nodes) l.threshold.p l.threshold.q l.fn.whole.items (pieces_of l.run.work.items) l.run
    × (length l.nodes < length l.scratch.counts.items) × (length l.nodes < length l.scratch.sums.items) × (length l.nodes < length l.scratch.members.items) × (length l.nodes < length l.scratch.numbers.items)

abbrev pub decreases-loop-piece : goal.decreases-loop-piece
decreases-loop-piece l = pieces_left (pieces_of l.run.work.items)
