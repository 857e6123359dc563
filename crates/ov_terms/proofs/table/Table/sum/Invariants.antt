use Rattle.std.proofs.Common.{◌≡◌, ◌≤◌, ◌+◌, ◌*◌, ◌^◌, drop, length}
use Rattle.std.specs.Prelude.{pos, ◌+ℤ◌, ◌≤ℤ◌}
use Rattle.ov_model.specs.Answers.{sum_from}
use Rattle.ov_terms.proofs.Values.{values}
use Rattle.ov_terms.proofs.table.Table.sum.Given as goal

-- the sum of the values before, of which each is less than 2^63, and how many there are
abbrev pub invariant-loop-spot : goal.invariant-loop-spot
invariant-loop-spot l =
    (sum_from (pos 0) (values l.self l.found l.group) ≡ sum_from l.sum (values l.self l.found (drop l.spot-index l.group)))
    × (pos 0 ≤ℤ (l.sum +ℤ pos (l.spot-index * 2 ^ 63)))
    × (l.sum ≤ℤ pos (l.spot-index * 2 ^ 63))
    × (l.count ≤ l.spot-index)
    × (length (values l.self l.found l.group) ≡ l.count + length (values l.self l.found (drop l.spot-index l.group)))
