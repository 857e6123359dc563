use Rattle.std.proofs.Common.{take}
use Rattle.std.specs.List.{All}
use Rattle.ov_fetch.specs.Scans.{AllStand}
use Rattle.ov_read.specs.Picking.{ArePicks}
use Rattle.ov_read.proofs.scanning.picks_of.Given as goal

abbrev pub invariant-loop-rids : goal.invariant-loop-rids
invariant-loop-rids l =
    ArePicks l.schema l.records.records (take l.rids-index l.members) l.picks.items × All (AllStand l.records.records) l.picks.items
