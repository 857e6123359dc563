use Rattle.std.proofs.Common.{◌≡◌, map, take, drop}
use Rattle.ov_catalog.specs.Sets.{version_in}
use Rattle.ov_catalog.specs.Wholes.{parents_follow}
use Rattle.ov_catalog.proofs.whole_versions.parents_follow.Given as goal

abbrev pub invariant-loop-at : goal.invariant-loop-at
invariant-loop-at l =
    parents_follow (map version_in (take 1 l.versions)) (map version_in (drop 1 l.versions))
    ≡ parents_follow (map version_in (take l.at l.versions)) (map version_in (drop l.at l.versions))
