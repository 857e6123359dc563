use Rattle.std.proofs.Common.{get_or, refl, arith}
use Rattle.ov_lyre.proofs.PartFacts.{has-at}
use Rattle.ov_lyre.proofs.RunDownFacts.{stands-more}
use Rattle.ov_lyre.proofs.sides.clear.Goals as goal

pub bounds-numbers-vid : goal.bounds-numbers-vid
bounds-numbers-vid c =
    let inside = c.requires (get_or c.args.part.now c.loop-vid.vid-index 0) (has-at c.args.part.now c.loop-vid.vid-index c.loop-vid-test.true) in
    let same = c.loop-vid.auto.numbers in
    omega arith

pub loop-vid-preserved : goal.loop-vid-preserved
loop-vid-preserved c =
    let part = c.args.part.now in
    let k = c.loop-vid.vid-index in
    let inside = c.requires (get_or part k 0) (has-at part k c.loop-vid-test.true) in
    let same = c.loop-vid.auto.numbers in
    stands-more (λ _. 0) part c.loop-vid.numbers k 0 c.loop-vid-test.true c.loop-vid.invariant refl (omega arith)
