use Rattle.std.proofs.Common.{◌≡◌, ℕ, ◌≤◌, List}
use Rattle.ov_member.specs.Walks.{takes, Awaits, IsAbove, edges_left}
use Rattle.ov_member.proofs.walk.Walk.next_turn.Given as goal

abbrev pub invariant-loop-edge : goal.invariant-loop-edge
invariant-loop-edge l = (takes l.self.rule l.self.left.inside l.self.right.inside ≡ l.inside) × ((edges : List ℕ) → Awaits l.self edges → Awaits l.initial.self edges) × ((low : ℕ) → IsAbove low l.initial.self → IsAbove low l.self) × (edges_left l.self ≤ edges_left l.initial.self)

abbrev pub decreases-loop-edge : goal.decreases-loop-edge
decreases-loop-edge l = edges_left l.self
