use Rattle.std.proofs.Common.{take}
use Rattle.std.specs.List.{All}
use Rattle.ov_value.specs.Spelling.{IsShort, IsTyped}
use Rattle.ov_registry.proofs.tables.are_spelled.Given as goal

abbrev pub invariant-loop-value : goal.invariant-loop-value
invariant-loop-value l = record {
  typed : All IsTyped (take l.value-index l.values);
  short : All IsShort (take l.value-index l.values);
}
