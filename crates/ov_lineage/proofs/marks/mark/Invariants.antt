use Rattle.std.proofs.Common.{◌≡◌, ◌==◌, ◌||◌, ◌+◌, ℕ, false, take, get_or}
use Rattle.std.specs.List.{list_any}
use Rattle.ov_lineage.proofs.marks.mark.Given as goal

abbrev pub invariant-loop-vid : goal.invariant-loop-vid
invariant-loop-vid l = (k : ℕ) → get_or l.marks k false ≡ (get_or l.initial.marks k false || list_any (λ vid. vid == k + 1) (take l.vid-index l.vids))
