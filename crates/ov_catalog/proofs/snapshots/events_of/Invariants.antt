use Rattle.std.proofs.Common.{take}
use Rattle.ov_catalog.specs.Sets.{sets_in}
use Rattle.ov_catalog.specs.Snapshots.{IsSnapshot}
use Rattle.ov_catalog.proofs.snapshots.events_of.Given as goal

abbrev pub invariant-loop-d : goal.invariant-loop-d
invariant-loop-d l = IsSnapshot l.events.items (record { next = l.next; sets = sets_in (take l.d-index l.sets) })
