use Rattle.std.proofs.Common.{take}
use Rattle.ov_open.specs.Replaying.{HasCome}
use Rattle.ov_open.proofs.replaying.replay.Given as goal

abbrev pub invariant-loop-nth : goal.invariant-loop-nth
invariant-loop-nth l = HasCome l.format (take l.nth l.payloads) l.catalog.reach l.catalog.numbers
