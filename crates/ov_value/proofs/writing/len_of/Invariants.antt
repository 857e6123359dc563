use Rattle.std.proofs.Common.{◌≡◌, take, length, min}
use Rattle.std.specs.List.{flat_map}
use Rattle.ov_value.specs.Spelling.{value_bytes}
use Rattle.ov_value.proofs.writing.len_of.Given as goal

abbrev pub invariant-loop-value : goal.invariant-loop-value
invariant-loop-value l = l.len ≡ min (length (flat_map value_bytes (take l.value-index l.values))) 0xffff_ffff_ffff_ffff
