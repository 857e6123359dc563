use Rattle.std.proofs.Common.{◌≡◌, drop}
use Rattle.ov_memhost.specs.Done.{kept_in}
use Rattle.ov_memhost.specs.Stopped.{stopped}
use Rattle.ov_memhost.specs.Replica.{disk_of}
use Rattle.ov_memhost.proofs.replica.Replica.stop.Given as goal

abbrev pub invariant-loop-one : goal.invariant-loop-one
invariant-loop-one l =
    stopped (kept_in (drop l.one-index l.past)) l.call l.cut (disk_of l.self)
    ≡ stopped (kept_in l.past) l.call l.cut (disk_of l.fn.self)
