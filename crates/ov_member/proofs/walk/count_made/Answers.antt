use Rattle.std.proofs.Common.{[], ◌∷◌, arith}
use Rattle.ov_member.proofs.EdgeLemmas.{length-between}
use Rattle.ov_member.proofs.walk.count_made.Goals as goal

pub loop-first-init : goal.loop-first-init
loop-first-init c = (λ edges awaits. (edges, c.new-walk.ensures.turns edges awaits, omega arith), (0, omega arith, c.new-walk.ensures.above 0 c.requires.left_ascends c.requires.right_ascends))

pub loop-first-preserved : goal.loop-first-preserved
loop-first-preserved c =
    let first = c.in-Some.first in
    let past = c.in-Some-next_turn.past in
    let low = c.loop-first.invariant.1 in
    let at_first = c.in-Some.ensures.above low.0 low.2 in
    let at_past = c.in-Some-next_turn.ensures.above first at_first.2 in (
      λ edges awaits.
          let two = c.in-Some.ensures.turns (past ∷ edges) (c.in-Some-next_turn.ensures.turns edges awaits) in
          let whole = c.loop-first.invariant.0 (first ∷ past ∷ edges) two in
          (whole.0, whole.1, omega (arith, whole.2, length-between first past edges)),
      (past, omega arith, at_past.2),
    )

pub returns-in_default-next_turn : goal.returns-in_default-next_turn
returns-in_default-next_turn c =
    let first = c.in-Some.first in
    let whole = c.loop-first.invariant.0 (first ∷ []) (c.in-Some.ensures.turns [] c.in_default-next_turn.ensures.turns) in
    (whole.0, whole.1, omega (arith, whole.2))

pub returns-in_default : goal.returns-in_default
returns-in_default c =
    let whole = c.loop-first.invariant.0 [] c.in_default.ensures.turns in
    (whole.0, whole.1, omega (arith, whole.2))
