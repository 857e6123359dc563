-- What every end in memory counts, and when its calls fail.
use Rattle.std.specs.Prelude.{◌≡◌, ◌≤◌, ℕ, ◌+◌, ◌-◌, ◌^◌, ◌==◌, min, Bool, true, false, if◌then◌else◌}
use Rattle.std.specs.List.{list_any}
use Rattle.ov_memhost.specs.declared.counts.Counts.{Counts}

-- one more, of a count that stays at 2^64 - 1 once it is there
abbrev pub next : ℕ → ℕ
next n = min (n + 1) (2 ^ 64 - 1)

-- the number of the call that comes next is in the list
abbrev pub is_listed : Counts → Bool
is_listed counts = list_any (λ n. n == counts.calls) counts.fail.items

-- A call was counted. It fails exactly where its number is listed or it found no memory; both count as faults, and
-- `starved` counts the second kind alone. A call that is listed doesn't ask for memory.
pub record Answered (ok : Bool) (old new : Counts) : Type 0 where
  pub list : new.fail ≡ old.fail
  pub calls : new.calls ≡ next old.calls
  pub later : (old.faults ≤ new.faults) × (old.calls ≤ new.calls)
  pub listed : is_listed old ≡ true → ok ≡ false
  pub faults : new.faults ≡ (if ok then old.faults else next old.faults)
  pub starved : new.starved ≡ (if ok then old.starved else if is_listed old then old.starved else next old.starved)

-- a call that takes no memory fails exactly where its number is listed
pub record AnsweredAlways (ok : Bool) (old new : Counts) : Type 0 where
  pub list : new.fail ≡ old.fail
  pub calls : new.calls ≡ next old.calls
  pub later : (old.faults ≤ new.faults) × (old.calls ≤ new.calls)
  pub listed : is_listed old ≡ true → ok ≡ false
  pub failed : ok ≡ false → is_listed old ≡ true
  pub faults : new.faults ≡ (if ok then old.faults else next old.faults)
  pub starved : new.starved ≡ old.starved
