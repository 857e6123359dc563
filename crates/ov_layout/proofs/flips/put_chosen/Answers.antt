use Rattle.ov_layout.proofs.FlipLemmas.{AreBelow-get}
use Rattle.ov_layout.proofs.flips.put_chosen.Goals as goal

pub bounds-extents-place : goal.bounds-extents-place
bounds-extents-place c = AreBelow-get _ c.args.places.now c.loop-place.place-index 0 c.requires.within c.loop-place-test.true
