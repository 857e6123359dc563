use Rattle.std.proofs.Common.{◌≡◌, take}
use Rattle.ov_open.specs.Building.{gate_within}
use Rattle.ov_open.proofs.building.gate_behind.Given as goal

abbrev pub invariant-loop-payload : goal.invariant-loop-payload
invariant-loop-payload l = l.at ≡ gate_within l.start (take l.payload-index l.before)
