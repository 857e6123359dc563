use Rattle.std.proofs.Common.{◌≡◌, ℕ, ◌||◌, false, take, get_or}
use Rattle.ov_layout.specs.Parts.{has}
use Rattle.ov_catalog.proofs.targets.mark.Given as goal

abbrev pub invariant-loop-vid : goal.invariant-loop-vid
invariant-loop-vid l = (n : ℕ) → get_or l.seen n false ≡ (get_or l.fn.seen n false || has (take l.vid-index l.vids) n)
