use Rattle.std.proofs.Common.{◌≢◌, ◌<◌, ℕ, get_or, []}
use Rattle.ov_memhost.specs.Named.{entries_of, names_of}
use Rattle.ov_memhost.proofs.named.place_of.Given as goal

abbrev pub invariant-loop-place : goal.invariant-loop-place
invariant-loop-place l = (p : ℕ) → p < l.place → get_or (names_of (entries_of l.files)) p [] ≢ l.name
