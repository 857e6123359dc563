use Rattle.std.proofs.Common.{◌≡◌, ◌++◌, drop}
use Rattle.std.specs.List.{zip}
use Rattle.ov_version_bytes.proofs.next.edges_of.Given as goal

abbrev pub invariant-loop-at : goal.invariant-loop-at
invariant-loop-at l = l.edges.items ++ zip (drop l.at l.parents) (drop l.at l.weights) ≡ zip l.parents l.weights
