use Rattle.std.proofs.Common.{◌≡◌, ℕ, map, take}
use Rattle.std.specs.List.{zip}
use Rattle.ov_model.specs.Assigned.{assigned, rid_by}
use Rattle.ov_records.specs.Records.{lists_of, shared}
use Rattle.ov_records.proofs.sharing.shares_of.Given as goal

abbrev pub invariant-loop-parent : goal.invariant-loop-parent
invariant-loop-parent l = record {
  found : l.found.items ≡ map (rid_by (lists_of (take l.parent-index l.parents))) l.rows;
  weights : (next : ℕ) → l.weights.items ≡ map (shared (zip (assigned l.rows (lists_of l.parents) next) l.rows)) (lists_of (take l.parent-index l.parents));
}
