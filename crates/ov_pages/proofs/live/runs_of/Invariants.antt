use Rattle.std.proofs.Common.{take}
use Rattle.ov_pages.specs.Runs.{AreRunsOf}
use Rattle.ov_pages.proofs.live.runs_of.Given as goal

abbrev pub invariant-loop-extent : goal.invariant-loop-extent
invariant-loop-extent l = AreRunsOf (take l.extent-index l.live) l.runs.items
