use Rattle.std.proofs.Common.{[], ◌∷◌, ap, sym, not, ◌∙◌, arith}
use Rattle.ov_member.proofs.EdgeLemmas.{Ascend-weaker}
use Rattle.ov_member.proofs.WalkLemmas.{nearest_none, no_turns, step_past, turns, stays, differ, agree}
use Rattle.ov_member.proofs.walk.Walk.next_turn.Goals as goal

pub returns-then-takes-inside-clause-turns : goal.returns-then-takes-inside-clause-turns
returns-then-takes-inside-clause-turns c =
    let side = c.loop-edge.self in
    let step = step_past c.in-Some.edge side.left.inside _ side.right.inside _ _ _ _ _ c.in-Some.ensures c.past-self.ensures.rest c.past-self.ensures.turned c.past-self-in-Some.ensures.rest c.past-self-in-Some.ensures.turned in
    let turn = sym c.takes.ensures ∙ differ c.takes.result c.takes-inside.result c.if-takes-inside.true ∙ ap not (sym c.loop-edge.invariant.0) in
    λ edges awaits. c.leap.ensures.turns (c.in-Some.edge ∷ edges) (c.loop-edge.invariant.1 (c.in-Some.edge ∷ edges) (turns side.rule c.in-Some.edge _ _ _ _ _ _ _ _ edges step turn awaits))

pub loop-edge-preserved : goal.loop-edge-preserved
loop-edge-preserved c =
    let side = c.loop-edge.self in
    let leap = c.leap-in-Some.ensures in
    let step = step_past c.in-Some.edge side.left.inside _ side.right.inside _ _ _ _ _ c.in-Some.ensures c.past-self.ensures.rest c.past-self.ensures.turned c.past-self-in-Some.ensures.rest c.past-self-in-Some.ensures.turned in
    let same = sym c.takes.ensures ∙ agree c.takes.result c.takes-inside.result c.if-takes-inside.false in (
      leap.same ∙ same,
      λ edges awaits. c.loop-edge.invariant.1 edges (stays side.rule c.in-Some.edge _ _ _ _ _ _ _ _ edges step (same ∙ sym c.loop-edge.invariant.0) (leap.turns edges awaits)),
      λ low above.
          let known = c.loop-edge.invariant.2 low above in
          let bound = (step.near.bounds low known.0 known.1).0 in
          leap.above low (Ascend-weaker low c.in-Some.edge c.past-self.result.edges.now (omega arith) (step.on_left.ascend low known.0), Ascend-weaker low c.in-Some.edge c.past-self-in-Some.result.edges.now (omega arith) (step.on_right.ascend low known.1)),
      omega (arith, step.fewer, leap.fewer, c.loop-edge.invariant.3),
    )

pub loop-edge-smaller : goal.loop-edge-smaller
loop-edge-smaller c =
    let side = c.loop-edge.self in
    let step = step_past c.in-Some.edge side.left.inside _ side.right.inside _ _ _ _ _ c.in-Some.ensures c.past-self.ensures.rest c.past-self.ensures.turned c.past-self-in-Some.ensures.rest c.past-self-in-Some.ensures.turned in
    omega (arith, step.fewer, c.leap-in-Some.ensures.fewer)

pub returns-clause-turns : goal.returns-clause-turns
returns-clause-turns c =
    let none = nearest_none c.loop-edge.self.left.edges.now c.loop-edge.self.right.edges.now c.nearest.result c.nearest.ensures c.in_default.not-Some in
    c.leap.ensures.turns [] (c.loop-edge.invariant.1 [] (rw (none.0, none.1) (no_turns c.loop-edge.self.rule c.loop-edge.self.left.inside c.loop-edge.self.right.inside)))
