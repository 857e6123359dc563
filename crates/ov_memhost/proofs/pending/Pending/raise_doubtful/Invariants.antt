use Rattle.std.proofs.Common.{◌≡◌, ◌<◌, ℕ, false, ◌||◌, nat_le, get_or, take, length}
use Rattle.ov_memhost.specs.Picked.{is_written}
use Rattle.ov_memhost.proofs.pending.Pending.raise_doubtful.Given as goal

abbrev pub invariant-loop-from : goal.invariant-loop-from
invariant-loop-from l =
    (p : ℕ) → p < length l.flags → get_or l.flags p false ≡ (nat_le l.self.synced p || is_written (take l.from-index l.self.written.items) p)
