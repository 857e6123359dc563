use Rattle.std.proofs.Common.{◌≡◌, drop}
use Rattle.std.specs.Prelude.{find, is_some}
use Rattle.ov_catalog.specs.Sets.{sets_in}
use Rattle.ov_store.specs.Committing.{Set}
use Rattle.ov_store.proofs.store.Store.is_at_last.Given as goal

-- no plan runs in those that were passed
abbrev pub invariant-loop-d : goal.invariant-loop-d
invariant-loop-d l = find (λ (s : Set). is_some s.plan) (sets_in l.sets) ≡ find (λ (s : Set). is_some s.plan) (sets_in (drop l.d-index l.sets))
