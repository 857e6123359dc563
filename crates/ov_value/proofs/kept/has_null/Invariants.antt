use Rattle.std.proofs.Common.{◌≡◌, drop}
use Rattle.std.specs.List.{list_any}
use Rattle.ov_value.specs.Rows.{is_null}
use Rattle.ov_value.proofs.kept.has_null.Given as goal

abbrev pub invariant-loop-value : goal.invariant-loop-value
invariant-loop-value l = list_any is_null l.values ≡ list_any is_null (drop l.value-index l.values)
