use Rattle.std.proofs.Common.{◌≡◌}
use Rattle.ov_model.specs.Records.{counted}
use Rattle.ov_store.proofs.listing.all_listed.Given as goal

abbrev pub invariant-loop-place : goal.invariant-loop-place
invariant-loop-place l = l.made.items ≡ counted 1 l.place
