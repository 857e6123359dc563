use Rattle.std.proofs.Common.{◌≡◌, drop}
use Rattle.ov_pages.specs.Live.{too_high_page}
use Rattle.ov_pages.proofs.live.first_too_high.Given as goal

abbrev pub invariant-loop-extent : goal.invariant-loop-extent
invariant-loop-extent l = too_high_page (drop l.extent-index l.live) ≡ too_high_page l.live
