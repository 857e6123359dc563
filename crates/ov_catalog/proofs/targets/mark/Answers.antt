use Rattle.std.proofs.Common.{◌<◌, get_or, length, arith}
use Rattle.ov_layout.proofs.VidLemmas.{has-get}
use Rattle.ov_catalog.proofs.SeenLemmas.{mark-more}
use Rattle.ov_catalog.proofs.targets.mark.Goals as goal

pub bounds-seen-vid : goal.bounds-seen-vid
bounds-seen-vid c =
    let low = c.requires _ (has-get c.args.vids.now c.loop-vid.vid-index 0 c.loop-vid-test.true) in
    let long = c.loop-vid.auto.seen in
    omega (arith, low, long)

pub loop-vid-preserved : goal.loop-vid-preserved
loop-vid-preserved c =
    let low = c.requires _ (has-get c.args.vids.now c.loop-vid.vid-index 0 c.loop-vid-test.true) in
    let long = c.loop-vid.auto.seen in
    let within : get_or c.args.vids.now c.loop-vid.vid-index 0 < length c.loop-vid.seen = omega (arith, low, long) in
    mark-more c.loop-vid.seen c.args.seen.now c.args.vids.now c.loop-vid.vid-index c.loop-vid-test.true within c.loop-vid.invariant
