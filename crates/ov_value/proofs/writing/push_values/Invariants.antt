use Rattle.std.proofs.Common.{◌≡◌, ◌++◌, take}
use Rattle.std.specs.List.{flat_map}
use Rattle.ov_value.specs.Spelling.{value_bytes}
use Rattle.ov_value.proofs.writing.push_values.Given as goal

abbrev pub invariant-loop-value : goal.invariant-loop-value
invariant-loop-value l = l.bytes.items ≡ l.initial.bytes.items ++ flat_map value_bytes (take l.value-index l.values)
