use Rattle.ov_store.specs.Listing.{IsPassing}
use Rattle.ov_store.proofs.listing.listed.Given as goal

abbrev pub invariant-loop-vid : goal.invariant-loop-vid
invariant-loop-vid l = IsPassing l.count l.vids l.vid-index l.seen.items l.made.items
