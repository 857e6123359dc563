use Rattle.std.proofs.Common.{◌≡◌}
use Rattle.ov_model.specs.Records.{counted}
use Rattle.ov_version_bytes.proofs.first.first_rids.Given as goal

abbrev pub invariant-loop-place : goal.invariant-loop-place
invariant-loop-place l = l.rids.items ≡ counted 1 l.place
