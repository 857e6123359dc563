use Rattle.std.proofs.Common.{◌≡◌, ◌<◌, ◌≤◌, ◌⊎◌, ℕ, true, false, get_or}
use Rattle.ov_memhost.proofs.pending.raise.Given as goal

abbrev pub invariant-loop-place : goal.invariant-loop-place
invariant-loop-place l =
    record {
      inside : (p : ℕ) → l.fn.from ≤ p → p < l.place → get_or l.flags p false ≡ true;
      others : (p : ℕ) → (p < l.fn.from) ⊎ (l.place ≤ p) → get_or l.flags p false ≡ get_or l.fn.flags p false;
    }
