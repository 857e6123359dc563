use Rattle.ov_targets.proofs.Marks.{below_at}
use Rattle.ov_targets.proofs.lasts.greatest_of.Goals as goal

pub bounds-lasts-vid : goal.bounds-lasts-vid
bounds-lasts-vid c = below_at _ c.args.versions.now c.loop-vid.vid-index 0 c.requires c.loop-vid-test.true
