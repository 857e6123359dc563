use Rattle.ov_layout.proofs.VidLemmas.{has-get}
use Rattle.ov_catalog.proofs.whole_plans.are_marked.Goals as goal

pub bounds-seen-vid : goal.bounds-seen-vid
bounds-seen-vid c = c.requires _ (has-get c.args.vids.now c.loop-vid.vid-index 0 c.loop-vid-test.true)
