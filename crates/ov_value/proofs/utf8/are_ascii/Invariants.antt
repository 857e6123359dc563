use Rattle.std.proofs.Common.{◌<◌, ℕ, length, get_or}
use Rattle.std.specs.List.{All}
use Rattle.ov_value.proofs.Ascii.{IsTail}
use Rattle.ov_value.proofs.utf8.are_ascii.Given as goal

abbrev pub invariant-loop-rest : goal.invariant-loop-rest
invariant-loop-rest l = record {
  others : All (λ b. b < 128) l.rest → All (λ b. b < 128) l.bytes;
  tail : IsTail l.bytes l.rest;
}

abbrev pub decreases-loop-rest : goal.decreases-loop-rest
decreases-loop-rest l = length l.rest

abbrev pub invariant-loop-byte : goal.invariant-loop-byte
invariant-loop-byte l = (k : ℕ) → k < l.byte-index → get_or l.byte-items k 0 < 128
