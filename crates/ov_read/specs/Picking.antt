-- Where the rows of a version stand among records.
--     places_of records rids      the positions of the records that have one of these rids, ascending
--     IsPick schema records rids pick      these positions in the order of their rows' keys
use Rattle.std.specs.Prelude.{ℕ, suc, if◌then◌else◌, List, [], ◌∷◌}
use Rattle.std.specs.List.Sorted.{IsPermutation}
use Rattle.ov_value.specs.Shapes.{Shape}
use Rattle.ov_segment.specs.declared.numbered.Record.{Record}
use Rattle.ov_member.specs.Rids.{has}
use Rattle.ov_fetch.specs.Scans.{InKeyOrder, rows_at}

-- the first record stands at the position `at`
abbrev pub places_from : ℕ → List Record → List ℕ → List ℕ
places_from at [] rids = []
places_from at (r ∷ records) rids = if has rids r.rid then at ∷ places_from (suc at) records rids else places_from (suc at) records rids

abbrev pub places_of : List Record → List ℕ → List ℕ
places_of records rids = places_from 0 records rids

pub record IsPick (schema : Shape) (records : List Record) (rids pick : List ℕ) : Type 0 where
  pub same : IsPermutation (places_of records rids) pick
  pub ordered : InKeyOrder schema (rows_at records pick)

-- one for each set of rids
abbrev pub ArePicks : Shape → List Record → List (List ℕ) → List (List ℕ) → Type 0
ArePicks schema records [] [] = Unit {0}
ArePicks schema records (rids ∷ members) (pick ∷ picks) = IsPick schema records rids pick × ArePicks schema records members picks
ArePicks schema records _ _ = ⊥
