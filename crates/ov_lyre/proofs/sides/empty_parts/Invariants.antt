use Rattle.std.proofs.Common.{◌≡◌, [], All, length}
use Rattle.ov_lyre.proofs.sides.empty_parts.Given as goal

abbrev pub invariant-loop : goal.invariant-loop
invariant-loop l = record {
  long : length l.parts.items ≡ l.counter;
  empty : All (λ part. part.items ≡ []) l.parts.items;
}
