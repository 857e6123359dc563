-- Rids as names of records.
--     Names rid records      each of these records has a number of its own
use Rattle.std.specs.Prelude.{◌≡◌, ℕ, ◌==◌, List}
use Rattle.ov_model.specs.Lists.{IsIn}
use Rattle.ov_model.specs.Records.{Rec, is_same_rec}

-- two of these records have the same number exactly where they are the same record
abbrev pub Names : (Rec → ℕ) → List Rec → Type 0
Names rid records = (r s : Rec) → IsIn records r → IsIn records s → (rid s == rid r) ≡ is_same_rec r s
