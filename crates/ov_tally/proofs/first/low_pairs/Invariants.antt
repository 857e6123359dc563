use Rattle.std.proofs.Common.{◌≡◌, take}
use Rattle.std.specs.Prelude.{filter}
use Rattle.ov_tally.specs.Ranks.{is_low}
use Rattle.ov_tally.proofs.first.low_pairs.Given as goal

abbrev pub invariant-loop-pair : goal.invariant-loop-pair
invariant-loop-pair l = l.kept.items ≡ filter (is_low l.bound) (take l.pair-index l.pairs)
