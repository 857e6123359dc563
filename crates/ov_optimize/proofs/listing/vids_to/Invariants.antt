use Rattle.std.proofs.Common.{◌≡◌}
use Rattle.ov_graph.specs.Trees.{vids}
use Rattle.ov_optimize.proofs.listing.vids_to.Given as goal

abbrev pub invariant-loop-vid : goal.invariant-loop-vid
invariant-loop-vid l = l.all.items ≡ vids l.vid
