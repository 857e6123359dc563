use Rattle.std.proofs.Common.{◌≡◌, map, take}
use Rattle.ov_query.proofs.listing.parents_of.Given as goal

abbrev pub invariant-loop-edge : goal.invariant-loop-edge
invariant-loop-edge l = l.vids.items ≡ map (λ edge. edge.0) (take l.edge-index l.edges)
