use Rattle.std.proofs.Common.{◌≡◌, ◌≤◌, ◌*◌, ◌^◌, ◌-◌, take}
use Rattle.std.specs.List.{AllWithin}
use Rattle.ov_layout.specs.Parts.{stored_of}
use Rattle.ov_layout.specs.Kept.{HasFewRecords}
use Rattle.ov_layout.proofs.sums.stored_in.Given as goal

abbrev pub invariant-loop-part : goal.invariant-loop-part
invariant-loop-part l = record {
  sum : l.stored ≡ stored_of (take l.part-index l.parts);
  bound : l.stored ≤ l.part-index * (2 ^ 32 - 1);
  few : AllWithin HasFewRecords l.parts 0 l.part-index;
}
