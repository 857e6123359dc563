use Rattle.std.proofs.Common.{◌≡◌, false, take}
use Rattle.ov_script.specs.Reader.{has_feed}
use Rattle.ov_script.proofs.reader.feed_in.Given as goal

abbrev pub invariant-loop-place : goal.invariant-loop-place
invariant-loop-place l = has_feed (take l.place l.bytes) ≡ false
