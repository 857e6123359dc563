use Rattle.std.proofs.Common.{◌≡◌, ◌++◌, take}
use Rattle.std.specs.List.{flat_map, All}
use Rattle.ov_event.proofs.list.write_items.Given as goal

abbrev pub invariant-loop-item : goal.invariant-loop-item
invariant-loop-item g l = record {
  written : l.out.items ≡ l.initial.out.items ++ flat_map g.T.Field.spelled (take l.item-index l.items);
  sound : All g.T.Field.is (take l.item-index l.items);
}
