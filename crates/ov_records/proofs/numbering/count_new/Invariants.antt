use Rattle.std.proofs.Common.{◌≡◌, ◌+◌, ◌≤◌, drop}
use Rattle.ov_records.specs.Found.{new_among}
use Rattle.ov_records.proofs.numbering.count_new.Given as goal

abbrev pub invariant-loop-one : goal.invariant-loop-one
invariant-loop-one l = record { below : l.count ≤ l.one-index; so_far : l.count + new_among (drop l.one-index l.found) ≡ new_among l.found }
