use Rattle.std.proofs.Common.{◌≡◌, ◌<◌, ◌++◌, length, drop}
use Rattle.ov_merge.specs.Places.{place_cmp}
use Rattle.ov_merge.specs.Walks.{behind, once}
use Rattle.ov_merge.proofs.once.first_of_each.Given as goal

abbrev pub invariant-loop-i : goal.invariant-loop-i
invariant-loop-i l = record {
  stands : l.last < length l.records;
  so_far : l.made.items ++ behind (place_cmp l.schema l.records) l.last (drop l.i l.places) ≡ once (place_cmp l.schema l.records) l.places;
}
