-- The fields of cells from a place on.
use Rattle.std.proofs.Common.{◌≡◌, ◌+◌, ◌<◌, ◌≤◌, ◌∷◌, [], ℕ, zero, suc, List, get_or, refl, length, drop, arith}
use Rattle.std.proofs.lemmas.List.{drop_more}
use Rattle.ov_value.specs.declared.column.Kind.{Kind}
use Rattle.ov_value.specs.declared.column.Kind.TheVariants.{Int}
use Rattle.ov_model.specs.declared.answer.Cell.{Cell}
use Rattle.ov_model.specs.Answers.{cell_field, cell_fields}

-- past the last cell there is none
pub none-left : (kinds : List Kind) (cells : List Cell) (place : ℕ) → length cells ≤ place → cell_fields (drop place kinds) (drop place cells) ≡ []
none-left [] cells zero past = by cells
  where
    by : (cs : List Cell) → cell_fields [] cs ≡ []
    by [] = refl
    by (c ∷ cs) = refl
none-left (kind ∷ kinds) [] zero past = refl
none-left (kind ∷ kinds) (c ∷ cells) zero past = absurd (omega (arith, past))
none-left [] cells (suc place) past = by (drop (suc place) cells)
  where
    by : (cs : List Cell) → cell_fields [] cs ≡ []
    by [] = refl
    by (c ∷ cs) = refl
none-left (kind ∷ kinds) [] (suc place) past = by (drop place kinds)
  where
    by : (ks : List Kind) → cell_fields ks [] ≡ []
    by [] = refl
    by (k ∷ ks) = refl
none-left (kind ∷ kinds) (c ∷ cells) (suc place) past = none-left kinds cells place (omega (arith, past))

-- the fields from a place on are that of the cell there, and the others
pub split : (kinds : List Kind) (cells : List Cell) (place : ℕ) (c : Cell) → place < length kinds → place < length cells → c ≡ get_or cells place c
    → cell_fields (drop place kinds) (drop place cells) ≡ cell_field (get_or kinds place Int) c ∷ cell_fields (drop (place + 1) kinds) (drop (place + 1) cells)
split kinds cells place c there some at = rw (drop_more kinds place Int there, drop_more cells place c some, ← at) refl
