-- More partners than there is room for.
use Rattle.std.proofs.Common.{◌≡◌, ◌+◌, ap, arith, get_or, length}
use Rattle.ov_join.specs.Partnering.{partners_in}
use Rattle.ov_join.proofs.Listing.{flat-count, flat-under}
use Rattle.ov_join.proofs.matching.partners.Goals as goal

pub returns-then-matched-room-clause-err : goal.returns-then-matched-room-clause-err
returns-then-matched-room-clause-err c = λ _.
    let f = partners_in c.args.left.now c.args.right.now c.args.sorted.now in
    let places = c.args.left.now.places.now in
    let i = c.loop-place.place-index in
    let more = flat-count f places i 0 c.loop-place-test.true in
    let under = flat-under f (i + 1) places in
    let here = ap length c.partners_of-matched.ensures in
    omega (arith, more, under, here, c.if-matched-room.true, c.loop-place.invariant.1)
