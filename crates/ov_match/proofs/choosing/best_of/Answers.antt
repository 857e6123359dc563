use Rattle.std.proofs.Common.{◌≡◌, ◌+◌, ◌∷◌, drop, subst, ◌∙◌, ap, arith}
use Rattle.std.specs.Prelude.{option_copied}
use Rattle.ov_match.specs.Matching.{modification, cost}
use Rattle.ov_match.proofs.Counts.{front_of}
use Rattle.ov_match.proofs.Cheapest.{SoFar, in_at, sound_at, found_better, found_no_better}
use Rattle.ov_match.proofs.choosing.best_of.Goals.{then-cost-least, else-cost-least}
use Rattle.ov_match.proofs.choosing.best_of.Goals as goal

pub cost_of-cost-requires-clause-few : goal.cost_of-cost-requires-clause-few
cost_of-cost-requires-clause-few c =
    let is = in_at c.args.candidates.now c.loop-candidate.candidate-index c.candidate-item.result c.loop-candidate-test.true c.candidate-item.is in
    rw c.deref.ensures.value (sound_at c.args.candidates.now c.candidate-item.result c.requires.segments is).few

pub cost_of-cost-requires-clause-apart : goal.cost_of-cost-requires-clause-apart
cost_of-cost-requires-clause-apart c =
    let is = in_at c.args.candidates.now c.loop-candidate.candidate-index c.candidate-item.result c.loop-candidate-test.true c.candidate-item.is in
    rw c.deref.ensures.value (sound_at c.args.candidates.now c.candidate-item.result c.requires.segments is).apart

pub loop-candidate-preserved : goal.loop-candidate-preserved
loop-candidate-preserved c =
    let target = c.args.target.now in
    let candidates = c.args.candidates.now in
    let i = c.loop-candidate.candidate-index in
    let one = c.candidate-item.result in
    let is = in_at candidates i one c.loop-candidate-test.true c.candidate-item.is in
    let front = front_of candidates i one c.loop-candidate-test.true c.candidate-item.is in
    let before : SoFar target candidates (one ∷ drop (i + 1) candidates) (option_copied c.loop-candidate.best) c.loop-candidate.least =
    subst (λ ahead. SoFar target candidates ahead (option_copied c.loop-candidate.best) c.loop-candidate.least) front c.loop-candidate.invariant in
    let cost_is : c.cost_of-cost.result ≡ cost target one = c.cost_of-cost.ensures ∙ ap (modification target) c.deref.ensures.value in
    elim c.if-cost-least.branch [
      | then-cost-least w ↦
          let now = found_better target candidates (drop (i + 1) candidates) (option_copied c.loop-candidate.best) c.loop-candidate.least one is (omega (arith, w.if-cost-least.true, cost_is)) before in
          rw (w.best-is, w.least-is, cost_is) now
      | else-cost-least w ↦
          let now = found_no_better target candidates (drop (i + 1) candidates) (option_copied c.loop-candidate.best) c.loop-candidate.least one (omega (arith, w.if-cost-least.false, cost_is)) before in
          rw (w.best-is, w.least-is) now
    ]
