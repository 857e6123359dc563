use Rattle.std.proofs.Common.{◌≡◌, ◌+◌, ◌-◌, drop, get_or, arith}
use Rattle.ov_lyre.specs.Sums.{Stands}
use Rattle.ov_lyre.specs.Sides.{number_of}
use Rattle.ov_lyre.proofs.PartFacts.{has-at}
use Rattle.ov_lyre.proofs.SidesFacts.{numbers-more}
use Rattle.ov_lyre.proofs.sides.number.Goals as goal

pub bounds-numbers-cuts : goal.bounds-numbers-cuts
bounds-numbers-cuts c =
    let le = c.loop-at.invariant.1 in
    let inside = c.requires.inside (get_or c.args.cuts.now (c.loop-at.at - 1) 0) (has-at c.args.cuts.now (c.loop-at.at - 1) (omega arith)) in
    let same = c.loop-at.auto.numbers in
    omega arith

pub loop-at-preserved : goal.loop-at-preserved
loop-at-preserved c =
    let cuts = c.args.cuts.now in
    let at = c.loop-at.at - 1 in
    let le = c.loop-at.invariant.1 in
    let inside = c.requires.inside (get_or cuts at 0) (has-at cuts at (omega arith)) in
    let same = c.loop-at.auto.numbers in
    let back : at + 1 ≡ c.loop-at.at = omega arith in
    let stands : Stands (number_of (drop (at + 1) cuts)) c.args.part.now c.loop-at.numbers = rw back c.loop-at.invariant.0 in
    (numbers-more c.args.part.now cuts c.loop-at.numbers at (omega arith) (omega arith) stands, omega arith)
