use Rattle.std.proofs.Common.{◌≡◌, ◌≤◌, ◌*◌, ◌^◌, take}
use Rattle.ov_catalog.specs.Sets.{sets_in}
use Rattle.ov_catalog.specs.Steps.{steps_of}
use Rattle.ov_catalog.proofs.steps.steps_left.Given as goal

abbrev pub invariant-loop-d : goal.invariant-loop-d
invariant-loop-d l = record {
  steps_are : l.steps ≡ steps_of (sets_in (take l.d-index l.sets));
  few : l.steps ≤ l.d-index * 2 ^ 41;
}
