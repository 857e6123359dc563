-- Runs of neighbours that are the same.
--     cut same xs      a list as its runs, each with its first element and those behind that
--     run_len same xs      how many elements the first run has
--     climbs order xs      no element is above the next one
use Rattle.std.specs.Prelude.{ℕ, suc, Bool, true, false, if◌then◌else◌, List, [], ◌∷◌}
use Rattle.std.specs.declared.cmp.Ordering.{Ordering}
use Rattle.ov_model.specs.Answers.{is_above}

abbrev pub Run : Type 0 → Type 0
Run X = X × List X

abbrev pub run_items : {X : Type 0} → Run X → List X
run_items run = run.0 ∷ run.1

-- an element in front of runs joins the first one, where it is the same as its first element
abbrev pub in_front : {X : Type 0} → (X → X → Bool) → X → List (Run X) → List (Run X)
in_front same x [] = (x, []) ∷ []
in_front same x (run ∷ runs) = if same x run.0 then (x, run.0 ∷ run.1) ∷ runs else (x, []) ∷ run ∷ runs

abbrev pub cut : {X : Type 0} → (X → X → Bool) → List X → List (Run X)
cut same [] = []
cut same (x ∷ xs) = in_front same x (cut same xs)

abbrev pub run_len : {X : Type 0} → (X → X → Bool) → List X → ℕ
run_len same [] = 0
run_len same (x ∷ []) = 1
run_len same (x ∷ y ∷ ys) = if same x y then suc (run_len same (y ∷ ys)) else 1

abbrev pub climbs : {X : Type 0} → (X → X → Ordering) → List X → Bool
climbs order [] = true
climbs order (x ∷ []) = true
climbs order (x ∷ y ∷ ys) = if is_above (order x y) then false else climbs order (y ∷ ys)
