-- What taking the next record of a list of records gives: whether there was one, its fields, and the records after it.
use Rattle.std.specs.Prelude.{◌≡◌, ℕ, Bool, true, false, List, [], ◌∷◌}

abbrev pub Takes : List (List (List ℕ)) → Bool → List (List ℕ) → List (List (List ℕ)) → Type 0
Takes before true fields after = before ≡ fields ∷ after
Takes before false fields after = (before ≡ []) × (after ≡ [])
