-- The rids that were found, with the next number where none was, are those of the definition.
use Rattle.std.proofs.Common.{◌≡◌, ℕ, suc, List, [], ◌∷◌, length, map, refl, ap}
use Rattle.std.specs.Prelude.{Option}
use Rattle.ov_model.specs.Assigned.{rid_by, or_next, next_after, assigned, fresh_rows}
use Rattle.ov_model.specs.Book.{Row}
use Rattle.ov_records.specs.Found.{numbered, new_among}

pub numbered_is : (rows : List Row) (ps : List (List (ℕ × Row))) (next : ℕ) → numbered (map (rid_by ps) rows) next ≡ assigned rows ps next
numbered_is [] ps next = refl
numbered_is (row ∷ rows) ps next = ap (λ l. or_next (rid_by ps row) next ∷ l) (numbered_is rows ps (next_after (rid_by ps row) next))

pub new_is : (rows : List Row) (ps : List (List (ℕ × Row))) → new_among (map (rid_by ps) rows) ≡ fresh_rows rows ps
new_is [] ps = refl
new_is (row ∷ rows) ps = ap (next_after (rid_by ps row)) (new_is rows ps)

pub length-numbered : (found : List (Option ℕ)) (next : ℕ) → length (numbered found next) ≡ length found
length-numbered [] next = refl
length-numbered (f ∷ fs) next = ap (λ n. suc n) (length-numbered fs (next_after f next))
