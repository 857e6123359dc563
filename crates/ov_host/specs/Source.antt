-- What contracts see of the source of a script.
use Rattle.std.specs.Prelude.{◌≡◌, ◌≤◌, ℕ, Bool, true, false, List, [], length, take, drop}
use Rattle.ov_host.specs.Host.{Rose}

-- a source: whether it tells its bytes, what is left of them, and how often it failed
pub record Script : Type 0 where
  pub tells : Bool
  pub left : List ℕ
  pub faults : ℕ

-- a source that tells nothing
abbrev pub silent_script : ℕ → Script
silent_script faults = record { tells = false; left = []; faults = faults }

-- what every read keeps to: it fails only where the count of faults rose, and then what is left stays
pub record Asks (ok : Bool) (old new : Script) : Type 0 where
  pub told : new.tells ≡ old.tells
  pub faults : old.faults ≤ new.faults
  pub cause : ok ≡ false → Rose old.faults new.faults
  pub failed : ok ≡ false → old.tells ≡ true → new.left ≡ old.left

-- a buffer holds the next n bytes of what was left; there are none only at the end
pub record Gives (n : ℕ) (old new : List ℕ) (buffer : List ℕ) : Type 0 where
  pub bytes : take n buffer ≡ take n old
  pub there : n ≤ length old
  pub rest : new ≡ drop n old
  pub ends : n ≡ 0 → old ≡ []
