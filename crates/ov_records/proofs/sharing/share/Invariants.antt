use Rattle.std.proofs.Common.{◌≡◌, ◌+◌, ◌≤◌, ◌++◌, length, take, drop}
use Rattle.ov_value.specs.Rows.{key_cmp}
use Rattle.ov_model.specs.Lists.{Rises}
use Rattle.ov_records.specs.Records.{pairs_of}
use Rattle.ov_records.specs.Found.{or_found, shared_found}
use Rattle.ov_records.proofs.Finds.{ArePassed}
use Rattle.ov_records.proofs.sharing.share.Given as goal

abbrev pub invariant-loop-i : goal.invariant-loop-i
invariant-loop-i l = record {
  rises : Rises (key_cmp l.schema) (drop l.i l.rows);
  within : l.passed ≤ length l.parent;
  passed : ArePassed l.schema (take l.passed l.parent) (drop l.i l.rows);
  small : l.weight ≤ l.i;
  found : take l.i l.found ++ or_found (drop l.i l.found) (drop l.i l.rows) (pairs_of l.parent) ≡ or_found l.initial.found l.rows (pairs_of l.parent);
  weight : l.weight + shared_found (pairs_of l.parent) (or_found (drop l.i l.found) (drop l.i l.rows) (pairs_of l.parent)) (drop l.i l.rows)
      ≡ shared_found (pairs_of l.parent) (or_found l.initial.found l.rows (pairs_of l.parent)) l.rows;
}
