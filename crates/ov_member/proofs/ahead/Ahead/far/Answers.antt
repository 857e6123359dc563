use Rattle.std.proofs.Common.{◌<◌, ◌≤◌, ℕ, List, get_or, length, drop, subst, sym}
use Rattle.std.proofs.lemmas.List.{take_rest}
use Rattle.ov_member.specs.Edges.{Ascend, is_odd}
use Rattle.ov_member.proofs.EdgeLemmas.{Ascend-behind, Leaps, leaps}
use Rattle.ov_member.proofs.OddLemmas.{odd_drop}
use Rattle.ov_member.proofs.ahead.Ahead.far.Goals as goal

pub invariant_of-result : goal.invariant_of-result
invariant_of-result c =
    let edges = c.self.inside.edges.now in
    subst (Ascend 0) (sym (take_rest edges c.edges_up_to-passed.result)) (Ascend-behind 0 edges c.edges_up_to-passed.result c.self.invariant)

leap : (edges : List ℕ) (rid passed : ℕ) → passed ≤ length edges → ((k : ℕ) → k < passed → get_or edges k 0 ≤ rid) → ((k : ℕ) → passed ≤ k → k < length edges → rid < get_or edges k 0)
    → Leaps (is_odd (length edges)) edges rid passed (is_odd (length (drop passed edges)))
leap edges rid passed low before behind = leaps (is_odd (length edges)) edges rid passed (is_odd (length (drop passed edges))) low before behind (odd_drop edges passed low)

pub returns-clause-inside : goal.returns-clause-inside
returns-clause-inside c =
    let found = leap c.self.inside.edges.now c.args.rid c.edges_up_to-passed.result c.edges_up_to-passed.ensures.bound c.edges_up_to-passed.ensures.before c.edges_up_to-passed.ensures.behind in
    rw (← c.self.view_is, take_rest c.self.inside.edges.now c.edges_up_to-passed.result) found.inside_is

pub returns-clause-ahead : goal.returns-clause-ahead
returns-clause-ahead c n from =
    let found = leap c.self.inside.edges.now c.args.rid c.edges_up_to-passed.result c.edges_up_to-passed.ensures.bound c.edges_up_to-passed.ensures.before c.edges_up_to-passed.ensures.behind in
    rw (← c.self.view_is, take_rest c.self.inside.edges.now c.edges_up_to-passed.result) (found.ahead_is n from)
