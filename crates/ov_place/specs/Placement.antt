-- Online placement, over numbers: whether a new version gets a partition of its own.
--     placed facts      a partition of its own, or the partition of its tree parent
use Rattle.std.specs.Prelude.{ℕ, ◌*◌, Bool, false, ◌||◌, ◌&&◌, nat_le, nat_lt, if◌then◌else◌, Option, Some, None}
use Rattle.ov_place.specs.declared.place_facts.Place.{Place}
use Rattle.ov_place.specs.declared.place_facts.Place.TheVariants.{Own, Join}
use Rattle.ov_place.specs.declared.place_facts.PlaceFacts.{PlaceFacts}

-- Under a threshold p/q: the version shares few records with its tree parent, `q * w <= p * R`, and the storage is within
-- its budget, `S < 2 * R`.
abbrev pub is_budgeted : Option (ℕ × ℕ) → ℕ → ℕ → ℕ → Bool
is_budgeted None weight records stored = false
is_budgeted (Some threshold) weight records stored =
    nat_le (threshold.1 * weight) (threshold.0 * records) && nat_lt stored (2 * records)

abbrev pub placed : PlaceFacts → Place
placed facts =
    if facts.unmoved || is_budgeted facts.threshold facts.weight facts.records facts.stored
    then Own
    else Join facts.parent
