-- Bytes of a journal that were read ahead of its records.
--     IsOf all ahead      they stand in the journal's bytes
--     behind ahead at      those from a place on
use Rattle.std.specs.Prelude.{◌≡◌, ℕ, ◌-◌, nat_le, if◌then◌else◌, List, [], length, take, drop}

-- the place of the first one, and the bytes
pub record Ahead : Type 0 where
  pub from : ℕ
  pub bytes : List ℕ

abbrev pub IsOf : List ℕ → Ahead → Type 0
IsOf all ahead = ahead.bytes ≡ take (length ahead.bytes) (drop ahead.from all)

abbrev pub behind : Ahead → ℕ → List ℕ
behind ahead at = if nat_le ahead.from at then drop (at - ahead.from) ahead.bytes else []
