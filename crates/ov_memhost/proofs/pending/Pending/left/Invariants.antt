use Rattle.std.proofs.Common.{◌≡◌, ◌<◌, ℕ, ◌+◌, ◌%◌, get_or, length}
use Rattle.ov_memhost.specs.Pending.{stored_of}
use Rattle.ov_memhost.specs.Picked.{byte_left, doubts_below}
use Rattle.ov_memhost.proofs.pending.Pending.left.Given as goal

abbrev pub invariant-loop-place : goal.invariant-loop-place
invariant-loop-place l =
    record {
      len : length l.left.bytes.items ≡ l.place;
      next : l.left.next ≡ (l.fn.next + doubts_below (stored_of l.self) l.place) % length l.pick;
      bytes_are : (p : ℕ) → p < l.place → get_or l.left.bytes.items p 0 ≡ byte_left (stored_of l.self) l.fn.next l.pick p;
    }
