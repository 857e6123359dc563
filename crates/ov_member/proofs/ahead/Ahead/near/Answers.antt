use Rattle.std.proofs.Common.{◌≡◌, ◌∷◌, ap, not, length, subst, ◌∙◌, arith}
use Rattle.ov_member.specs.Edges.{Ascend, is_odd, status}
use Rattle.ov_member.proofs.EdgeLemmas.{Ascend-weaker, status-past}
use Rattle.ov_member.proofs.OddLemmas.{odd_rest}
use Rattle.ov_member.proofs.ahead.Ahead.near.Goals as goal

pub loop-edge-preserved : goal.loop-edge-preserved
loop-edge-preserved c =
    let edges = c.loop-edge.edges.now in
    let edge = c.in-Some.edge.now in
    let rest = c.in-Some.rest.now in
    let is : edges ≡ edge ∷ rest = c.in-Some.ensures.cases.0 in
    let up : Ascend 0 (edge ∷ rest) = subst (Ascend 0) is c.loop-edge.invariant.ascend in
    let turned : is_odd (length rest) ≡ not (is_odd (length edges)) = odd_rest edges edge rest is in
    record {
      ascend = Ascend-weaker 0 edge rest (omega arith) up.2;
      says = λ n le. ap (λ b. status b rest n) turned ∙ status-past (is_odd (length edges)) edges edge rest n is (omega (arith, c.if-rid-edge.false, le)) ∙ c.loop-edge.invariant.says n le;
    }
