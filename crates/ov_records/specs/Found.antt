-- Rids on the way to a commit's: of each row the rid that some parents give it, or none.
--     or_found found rows parent      where none was found, the rid that this parent gives
--     has_found parent found row      whether the parent has the row with the rid that was found
--     shared_found parent found rows      how many rows the parent has with the rids that were found
--     numbered found next      the rids, with the next number where none was found
--     new_among found      for how many none was found
use Rattle.std.specs.Prelude.{ℕ, ◌+◌, ◌==◌, Bool, true, false, cond, List, [], ◌∷◌, Option, Some, None}
use Rattle.ov_model.specs.Assigned.{rid_of_row, or_next, next_after}
use Rattle.ov_model.specs.Book.{Row}
use Rattle.ov_model.specs.Records.{first_of}
use Rattle.ov_records.specs.Records.{has_record}

abbrev pub or_found : List (Option ℕ) → List Row → List (ℕ × Row) → List (Option ℕ)
or_found [] rows parent = []
or_found (f ∷ fs) [] parent = f ∷ fs
or_found (f ∷ fs) (row ∷ rows) parent = first_of f (rid_of_row parent row) ∷ or_found fs rows parent

abbrev pub has_found : List (ℕ × Row) → Option ℕ → Row → Bool
has_found parent None row = false
has_found parent (Some rid) row = has_record parent (rid, row)

-- a rid that was found is this one, or none was
abbrev pub leaves_to : Option ℕ → ℕ → Bool
leaves_to None rid = true
leaves_to (Some other) rid = rid == other

abbrev pub shared_found : List (ℕ × Row) → List (Option ℕ) → List Row → ℕ
shared_found parent [] rows = 0
shared_found parent (f ∷ fs) [] = 0
shared_found parent (f ∷ fs) (row ∷ rows) = cond (has_found parent f row) 1 0 + shared_found parent fs rows

abbrev pub numbered : List (Option ℕ) → ℕ → List ℕ
numbered [] next = []
numbered (f ∷ fs) next = or_next f next ∷ numbered fs (next_after f next)

abbrev pub new_among : List (Option ℕ) → ℕ
new_among [] = 0
new_among (f ∷ fs) = next_after f (new_among fs)
