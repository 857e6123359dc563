use Rattle.std.proofs.Common.{◌<◌, get_or, length, arith}
use Rattle.std.proofs.lemmas.List.{length-set}
use Rattle.ov_targets.proofs.Marks.{below_at, marked_more}
use Rattle.ov_targets.proofs.lasts.mark.Goals as goal

pub index_mut-requires : goal.index_mut-requires
index_mut-requires c =
    let low = below_at _ c.args.versions.now c.loop-vid.vid-index 0 c.requires c.loop-vid-test.true in
    let long = c.loop-vid.invariant.long in
    let ok = c.loop-vid.lasts.ok in
    omega (arith, low, long, ok)

pub loop-vid-preserved : goal.loop-vid-preserved
loop-vid-preserved c =
    let low = below_at _ c.args.versions.now c.loop-vid.vid-index 0 c.requires c.loop-vid-test.true in
    let long = c.loop-vid.invariant.long in
    let within : get_or c.args.versions.now c.loop-vid.vid-index 0 < length c.loop-vid.lasts.items = omega (arith, low, long) in
    record {
      marked = marked_more c.loop-vid.lasts.items c.args.lasts.now.items c.args.versions.now c.args.place c.loop-vid.vid-index c.loop-vid-test.true within c.loop-vid.invariant.marked;
      long = omega (arith, length-set c.loop-vid.lasts.items (get_or c.args.versions.now c.loop-vid.vid-index 0) c.args.place, long);
    }
