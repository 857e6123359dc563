-- Rows that records of one rid have.
--     NoneDiffer pairs      records of one rid have equal rows
--     Disagrees parents place      the parent at this place, counted from 0, has a rid with another row than an earlier parent has it with
--     IsFirstDisagreeing parents found      the first such place, or None, where no rid has different rows among all parents
use Rattle.std.specs.Prelude.{◌≡◌, ◌≤◌, ◌<◌, ℕ, false, List, [], length, map, take, slice_index_or, Option, Some, None, IsTrue}
use Rattle.ov_segment.specs.declared.numbered.Record.{Record}
use Rattle.ov_model.specs.Book.{Row}
use Rattle.ov_model.specs.Lists.{IsIn, joined}
use Rattle.ov_model.specs.Placed.{times}
use Rattle.ov_model.specs.Records.{is_same_row}

abbrev pub rids_of : List Record → List ℕ
rids_of records = map (λ r. r.rid) records

abbrev pub HasNoRidTwice : List Record → Type 0
HasNoRidTwice records = (rid : ℕ) → times (rids_of records) rid ≤ 1

-- records, each as its rid and its row, of which two with one rid have equal rows
abbrev pub NoneDiffer : List (ℕ × Row) → Type 0
NoneDiffer pairs = (a b : ℕ × Row) → IsIn pairs a → IsIn pairs b → a.0 ≡ b.0 → IsTrue (is_same_row a.1 b.1)

-- a rid that both have, with different rows
pub record Clash (earlier later : List (ℕ × Row)) : Type 0 where
  pub rid : ℕ
  pub before : Row
  pub after : Row
  pub was : IsIn earlier (rid, before)
  pub is : IsIn later (rid, after)
  pub differ : is_same_row before after ≡ false

abbrev pub Disagrees : List (List (ℕ × Row)) → ℕ → Type 0
Disagrees parents place = (place < length parents) × Clash (joined (take place parents)) (slice_index_or parents place [])

abbrev pub IsFirstDisagreeing : List (List (ℕ × Row)) → Option ℕ → Type 0
IsFirstDisagreeing parents None = NoneDiffer (joined parents)
IsFirstDisagreeing parents (Some place) = Disagrees parents place × ((earlier : ℕ) → earlier < place → Disagrees parents earlier → ⊥)
