use Rattle.std.proofs.Common.{List, ◌++◌, drop}
use Rattle.ov_host.specs.declared.area.Extent.{Extent}
use Rattle.ov_pages.specs.Live.{AreReserved}
use Rattle.ov_core.proofs.runs.free_all.Given as goal

abbrev pub invariant-loop-extent : goal.invariant-loop-extent
invariant-loop-extent l = (live : List Extent) → AreReserved (l.extents ++ live) l.fn.pages → AreReserved (drop l.extent-index l.extents ++ live) l.pages
