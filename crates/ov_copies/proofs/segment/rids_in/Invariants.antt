use Rattle.std.proofs.Common.{◌≡◌, take}
use Rattle.ov_fetch.specs.Extents.{rids_of}
use Rattle.ov_copies.proofs.segment.rids_in.Given as goal

abbrev pub invariant-loop-i : goal.invariant-loop-i
invariant-loop-i l = l.rids.items ≡ rids_of (take l.i l.records.records)
