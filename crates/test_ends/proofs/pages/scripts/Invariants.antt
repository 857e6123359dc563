use Rattle.ov_pages.specs.Live.{AreReserved}
use Rattle.test_ends.proofs.pages.scripts.Given as goal

abbrev pub invariant-loop : goal.invariant-loop
invariant-loop g l = AreReserved l.live.items l.pages
