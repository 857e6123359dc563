use Rattle.std.proofs.Common.{◌≡◌, ◌++◌, map, take}
use Rattle.ov_join.specs.Partnering.{paired}
use Rattle.ov_join.proofs.matching.push_matches.Given as goal

abbrev pub invariant-loop-spot : goal.invariant-loop-spot
invariant-loop-spot l = l.matches.items ≡ l.fn.matches.items ++ map (paired l.left) (take l.spot-index l.right)
