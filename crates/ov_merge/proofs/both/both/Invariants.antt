use Rattle.std.proofs.Common.{◌≡◌, ◌+◌, ◌-◌, ◌≤◌, ◌++◌, length, drop}
use Rattle.ov_merge.specs.Places.{place_cmp}
use Rattle.ov_merge.specs.Walks.{both}
use Rattle.ov_merge.proofs.both.both.Given as goal

abbrev pub invariant-loop-i : goal.invariant-loop-i
invariant-loop-i l = record {
  first_within : l.i ≤ length l.first;
  second_within : l.j ≤ length l.second;
  so_far : l.made.items ++ both (place_cmp l.schema l.records) (drop l.i l.first) (drop l.j l.second) ≡ both (place_cmp l.schema l.records) l.first l.second;
}

abbrev pub decreases-loop-i : goal.decreases-loop-i
decreases-loop-i l = (length l.first - l.i) + (length l.second - l.j)
