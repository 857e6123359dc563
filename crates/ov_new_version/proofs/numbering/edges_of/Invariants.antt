use Rattle.std.proofs.Common.{◌≡◌, ◌++◌, drop}
use Rattle.std.specs.List.{zip}
use Rattle.ov_new_version.proofs.numbering.edges_of.Given as goal

abbrev pub invariant-loop-at : goal.invariant-loop-at
invariant-loop-at l = l.edges.items ++ zip (drop l.at l.vids) (drop l.at l.weights) ≡ zip l.vids l.weights
