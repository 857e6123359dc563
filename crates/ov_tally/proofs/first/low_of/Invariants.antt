use Rattle.std.proofs.Common.{◌≡◌, ◌++◌, drop}
use Rattle.std.specs.Prelude.{filter}
use Rattle.ov_tally.specs.Ranks.{is_low, pairs_from, pairs_of}
use Rattle.ov_tally.proofs.first.low_of.Given as goal

-- those so far, and those that are left
abbrev pub invariant-loop-spans : goal.invariant-loop-spans
invariant-loop-spans l = record {
  number : l.version ≡ l.spans-index;
  told : l.kept.items ++ filter (is_low l.bound) (pairs_from l.spans-index l.ranks l.keys (drop l.spans-index l.versions)) ≡ filter (is_low l.bound) (pairs_of l.ranks l.keys l.versions);
}
