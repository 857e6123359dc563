use Rattle.std.proofs.Common.{◌≡◌, ◌<◌, ◌++◌, ℕ, [], length, map, get_or, All}
use Rattle.std.specs.Vec.Iter.{into_iter_items}
use Rattle.ov_targets.specs.Emptying.{candidates_in, emptied_at, place_in}
use Rattle.ov_targets.specs.Targets.{AreBelow}
use Rattle.ov_targets.proofs.candidates.candidates_of.Given as goal

-- what is ahead comes behind what each target has
abbrev pub invariant-loop-partition : goal.invariant-loop-partition
invariant-loop-partition l = record {
  can : (goal.iterator-loop-partition).can_next l.partition-iterator;
  ends : (goal.iterator-loop-partition).is_finite l.partition-iterator;
  long : length l.emptied.items ≡ l.count;
  within : All (λ partition. AreBelow (length l.lasts) partition.versions.items) (into_iter_items l.partition-iterator);
  each : (at : ℕ) → at < l.count
      → get_or (map candidates_in l.emptied.items) at [] ++ emptied_at (place_in l.lasts) at (into_iter_items l.partition-iterator)
      ≡ emptied_at (place_in l.lasts) at l.fn.partitions.items;
}
