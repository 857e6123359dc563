use Rattle.std.proofs.Common.{◌≡◌, take}
use Rattle.std.specs.Prelude.{All, flat_map}
use Rattle.ov_layout.specs.Index.{FitsEntry, entries_for}
use Rattle.ov_layout.proofs.index.entries_of.Given as goal

abbrev pub invariant-loop-part : goal.invariant-loop-part
invariant-loop-part l = record {
  entries : l.entries.items ≡ flat_map entries_for (take l.part-index l.parts);
  fit : All FitsEntry l.entries.items;
}
