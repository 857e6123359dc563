use Rattle.std.proofs.Common.{◌≡◌, map, take}
use Rattle.ov_model.specs.Joins.{wide_key}
use Rattle.ov_join.proofs.wide.wide_keys.Given as goal

abbrev pub invariant-loop-key : goal.invariant-loop-key
invariant-loop-key l = l.made.items ≡ map wide_key (take l.key-index l.keys)
