use Rattle.std.proofs.Common.{◌≡◌, ◌≤◌, ◌+◌, drop, length}
use Rattle.ov_terms.proofs.Values.{values}
use Rattle.ov_terms.proofs.table.Table.count.Given as goal

-- the values before are counted
abbrev pub invariant-loop-spot : goal.invariant-loop-spot
invariant-loop-spot l =
    (l.count ≤ l.spot-index)
    × (length (values l.self l.found l.group)
    ≡ l.count + length (values l.self l.found (drop l.spot-index l.group)))
