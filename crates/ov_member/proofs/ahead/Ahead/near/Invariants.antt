use Rattle.std.proofs.Common.{◌≡◌, ◌≤◌, ℕ, length}
use Rattle.ov_member.specs.Edges.{Ascend, is_odd, status}
use Rattle.ov_member.proofs.ahead.Ahead.near.Given as goal

abbrev pub invariant-loop-edge : goal.invariant-loop-edge
invariant-loop-edge l = record {
  ascend : Ascend 0 l.edges;
  says : (n : ℕ) → l.rid ≤ n → status (is_odd (length l.edges)) l.edges n ≡ status l.fn.self.inside l.fn.self.edges n;
}

abbrev pub decreases-loop-edge : goal.decreases-loop-edge
decreases-loop-edge l = length l.edges
