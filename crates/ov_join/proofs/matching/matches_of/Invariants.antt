use Rattle.std.proofs.Common.{◌≡◌, map, take}
use Rattle.std.specs.List.{flat_map}
use Rattle.ov_join.specs.Partnering.{matches_by, told}
use Rattle.ov_join.proofs.matching.matches_of.Given as goal

abbrev pub invariant-loop-partners : goal.invariant-loop-partners
invariant-loop-partners l = l.matches.items ≡ flat_map matches_by (map told (take l.partners-index l.found))
