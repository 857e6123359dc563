use Rattle.std.proofs.Common.{◌≡◌, ◌||◌, ℕ, false, take, get_or}
use Rattle.ov_catalog.specs.Running.{is_in_target}
use Rattle.ov_catalog.proofs.whole_plans.mark_all.Given as goal

abbrev pub invariant-loop-target : goal.invariant-loop-target
invariant-loop-target l = (vid : ℕ) → get_or l.seen vid false ≡ (get_or l.fn.seen vid false || is_in_target (take l.target-index l.targets) vid)
