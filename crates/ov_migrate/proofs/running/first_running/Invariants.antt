use Rattle.std.proofs.Common.{◌≡◌, drop}
use Rattle.std.specs.Prelude.{find, is_some}
use Rattle.ov_catalog.specs.Sets.{sets_in}
use Rattle.ov_migrate.proofs.running.first_running.Given as goal

abbrev pub invariant-loop-d : goal.invariant-loop-d
invariant-loop-d l = find (λ s. is_some s.plan) (sets_in l.sets) ≡ find (λ s. is_some s.plan) (sets_in (drop l.d-index l.sets))
