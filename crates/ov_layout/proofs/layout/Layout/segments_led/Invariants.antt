use Rattle.std.proofs.Common.{◌≤◌, take}
use Rattle.ov_layout.proofs.LedLemmas.{led}
use Rattle.ov_layout.proofs.layout.Layout.segments_led.Given as goal

abbrev pub invariant-loop-vid : goal.invariant-loop-vid
invariant-loop-vid l = led (take l.vid-index l.versions) l.self.parts ≤ l.count
