-- The rows of records, from the answer of the first one.
use Rattle.std.proofs.Common.{◌≡◌, ◌∙◌, ℕ, ◌+◌, ◌-◌, ◌≤◌, List, [], ◌∷◌, length, take, drop, get_or, Option, Some, None, Result, Ok, Err, refl, sym, subst, ap, arith}
use Rattle.std.proofs.lemmas.Grind.{common_steps}
use Rattle.ov_value.specs.Shapes.{Shape}
use Rattle.ov_model.specs.Book.{Row}
use Rattle.ov_model.specs.Csv.{row_in, row_refusal, onto, unless_refused, rows_from}
use Rattle.ov_model.specs.declared.refusal.Refusal.{Refusal}
use Rattle.ov_plain_csv.specs.Reading.{or_refusal}

all-but-first : {X : Type 0} (x : X) (xs : List X) → take (length (x ∷ xs) - 1) (drop 1 (x ∷ xs)) ≡ xs
all-but-first x xs = grind (arith, common_steps)

err-then : (r : Option Refusal) (row : Row) (why : Refusal) (later : Result (List Row) Refusal)
    → Err why ≡ or_refusal r row → Err why ≡ unless_refused r later
err-then None row why later e = cc
err-then (Some r) row why later e = cc

ok-then : (r : Option Refusal) (made row : Row) (later : Result (List Row) Refusal)
    → Ok made ≡ or_refusal r row → onto made later ≡ unless_refused r (onto row later)
ok-then None made row later e = let same : made ≡ row = cc in rw same refl
ok-then (Some r) made row later e = cc

module _ (schema : Shape) (nth : ℕ) where
  pub rows-refused : (rs : List (List (List ℕ))) (f : List (List ℕ)) (why : Refusal) → 1 ≤ length rs → f ≡ get_or rs 0 f
      → Err why ≡ or_refusal (row_refusal schema nth f) (row_in schema.columns f) → Err why ≡ rows_from schema nth rs
  rows-refused [] f why some first e = absurd (omega arith)
  rows-refused (r ∷ rs) f why some first e =
      err-then (row_refusal schema nth r) (row_in schema.columns r) why (onto (row_in schema.columns r) (rows_from schema (nth + 1) rs))
      (subst (λ (u : List (List ℕ)). Err why ≡ or_refusal (row_refusal schema nth u) (row_in schema.columns u)) first e)

  pub rows-more : (rs : List (List (List ℕ))) (f : List (List ℕ)) (row : Row) (later all : Result (List Row) Refusal) → 1 ≤ length rs → f ≡ get_or rs 0 f
      → Ok row ≡ or_refusal (row_refusal schema nth f) (row_in schema.columns f)
      → later ≡ rows_from schema (nth + 1) (take (length rs - 1) (drop 1 rs)) → all ≡ onto row later → all ≡ rows_from schema nth rs
  rows-more [] f row later all some first e more is = absurd (omega arith)
  rows-more (r ∷ rs) f row later all some first e more is =
      let own = subst (λ (u : List (List ℕ)). Ok row ≡ or_refusal (row_refusal schema nth u) (row_in schema.columns u)) first e in
      let rest : later ≡ rows_from schema (nth + 1) rs = subst (λ (us : List (List (List ℕ))). later ≡ rows_from schema (nth + 1) us) (all-but-first r rs) more in
      is ∙ ok-then (row_refusal schema nth r) row (row_in schema.columns r) later own
      ∙ ap (λ (l : Result (List Row) Refusal). unless_refused (row_refusal schema nth r) (onto (row_in schema.columns r) l)) rest
