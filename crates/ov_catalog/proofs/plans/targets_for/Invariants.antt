use Rattle.std.proofs.Common.{◌≡◌, map, take}
use Rattle.ov_lyre.specs.Parts.{lists_of}
use Rattle.ov_catalog.specs.Events.{targets_of}
use Rattle.ov_catalog.specs.Ready.{said_by}
use Rattle.ov_catalog.specs.Sets.{target_in}
use Rattle.ov_catalog.proofs.plans.targets_for.Given as goal

abbrev pub invariant-loop-at : goal.invariant-loop-at
invariant-loop-at l = record {
  targets_are : map target_in l.targets.items ≡ targets_of (lists_of (take l.at l.parts)) l.said;
  said_are : map said_by l.targets.items ≡ take l.at l.said;
}
