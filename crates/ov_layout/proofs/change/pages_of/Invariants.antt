use Rattle.std.proofs.Common.{◌≡◌, ◌≤◌, ◌*◌, ◌^◌, ◌-◌, take}
use Rattle.ov_layout.specs.Parts.{pages_in}
use Rattle.ov_layout.proofs.change.pages_of.Given as goal

abbrev pub invariant-loop-segment : goal.invariant-loop-segment
invariant-loop-segment l = record {
  sum : l.pages ≡ pages_in (take l.segment-index l.segment-items);
  bound : l.pages ≤ l.segment-index * (2 ^ 32 - 1);
}
