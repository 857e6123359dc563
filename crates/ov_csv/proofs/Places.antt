-- The fields of a record by their places.
use Rattle.std.proofs.Common.{◌≡◌, ◌∷◌, [], ℕ, List, Option, Some, None, refl, zero, suc}
use Rattle.std.specs.Prelude.{slice_index_or}
use Rattle.csv.specs.Records.{field_at}

abbrev pub or_none : Option (List ℕ) → List ℕ
or_none None = []
or_none (Some field) = field

pub field-here : (fields : List (List ℕ)) (place : ℕ) → or_none (field_at fields place) ≡ slice_index_or fields place []
unfolding field_at
field-here [] place = refl
field-here (f ∷ fs) zero = refl
field-here (f ∷ fs) (suc place) = field-here fs place
