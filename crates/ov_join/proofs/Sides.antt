-- The values of rows side by side are those of each side.
use Rattle.std.proofs.Common.{◌≡◌, ◌+◌, ◌∷◌, ◌++◌, ◌∙◌, [], ℕ, zero, suc, List, Bool, true, false, not, cond, ap, refl, sym, length, map, get_or, arith}
use Rattle.std.specs.Prelude.{codes, slice_index_or, if◌then◌else◌}
use Rattle.std.specs.List.{position_or_len, prefix_len}
use Rattle.std.specs.Str.{bytes_eq}
use Rattle.ov_value.specs.Shapes.{Shape}
use Rattle.ov_value.specs.declared.column.Column.{Column}
use Rattle.ov_value.specs.declared.value.Value.{Value}
use Rattle.ov_value.specs.declared.value.Value.TheVariants.{Null}
use Rattle.ov_model.specs.Answers.{value_in}
use Rattle.ov_model.specs.Book.{Row}
use Rattle.ov_model.specs.Joins.{beside, left_name, renamed, right_name, side_by_side}
use Rattle.ov_model.specs.declared.query.Col.TheVariants as col
use Rattle.ov_terms.specs.Finding.{in_version}

abbrev named : List ℕ → Column → Bool
named name c = bytes_eq c.name name

next : (v : Value) (l : List Value) (i : ℕ) → slice_index_or (v ∷ l) (1 + i) Null ≡ slice_index_or l i Null
next v l i = ap (λ k. slice_index_or (v ∷ l) k Null) (more i) where
  more : (n : ℕ) → 1 + n ≡ suc n
  more n = omega arith

-- no column of the right side has the name of one of the left side, and past the last column there is NULL
left-past : (rs : List Column) (r : Row) (name : List ℕ) → length r ≡ length rs
    → slice_index_or r (position_or_len (named (left_name name)) (map (renamed right_name) rs)) Null ≡ Null
left-past [] [] name e = refl
left-past [] (v ∷ r) name e = absurd (omega (arith, e))
left-past (c ∷ rs) [] name e = absurd (omega (arith, e))
left-past (c ∷ rs) (v ∷ r) name e = next v r (position_or_len (named (left_name name)) (map (renamed right_name) rs)) ∙ left-past rs r name (omega (arith, e))

step : (b : Bool) (v : Value) (l m : List Value) (i j : ℕ) → slice_index_or l i Null ≡ slice_index_or m j Null
    → slice_index_or (v ∷ l) (if not b then 1 + i else 0) Null ≡ slice_index_or (v ∷ m) (if not b then 1 + j else 0) Null
step true v l m i j e = refl
step false v l m i j e = next v l i ∙ e ∙ sym (next v m j)

left-at : (ls rs : List Column) (l r : Row) (name : List ℕ) → length l ≡ length ls → length r ≡ length rs
    → slice_index_or (l ++ r) (position_or_len (named (left_name name)) (map (renamed left_name) ls ++ map (renamed right_name) rs)) Null
    ≡ slice_index_or l (position_or_len (named name) ls) Null
left-at [] rs [] r name el er = left-past rs r name er
left-at [] rs (v ∷ l) r name el er = absurd (omega (arith, el))
left-at (c ∷ ls) rs [] r name el er = absurd (omega (arith, el))
left-at (c ∷ ls) rs (v ∷ l) r name el er =
    step (named name c) v (l ++ r) l (position_or_len (named (left_name name)) (map (renamed left_name) ls ++ map (renamed right_name) rs)) (position_or_len (named name) ls)
    (left-at ls rs l r name (omega (arith, el)) er)

right-here : (rs : List Column) (r : Row) (name : List ℕ) → length r ≡ length rs
    → slice_index_or r (position_or_len (named (right_name name)) (map (renamed right_name) rs)) Null ≡ slice_index_or r (position_or_len (named name) rs) Null
right-here [] r name e = refl
right-here (c ∷ rs) [] name e = absurd (omega (arith, e))
right-here (c ∷ rs) (v ∷ r) name e =
    step (named name c) v r r (position_or_len (named (right_name name)) (map (renamed right_name) rs)) (position_or_len (named name) rs) (right-here rs r name (omega (arith, e)))

right-at : (ls rs : List Column) (l r : Row) (name : List ℕ) → length l ≡ length ls → length r ≡ length rs
    → slice_index_or (l ++ r) (position_or_len (named (right_name name)) (map (renamed left_name) ls ++ map (renamed right_name) rs)) Null
    ≡ slice_index_or r (position_or_len (named name) rs) Null
right-at [] rs [] r name el er = right-here rs r name er
right-at [] rs (v ∷ l) r name el er = absurd (omega (arith, el))
right-at (c ∷ ls) rs [] r name el er = absurd (omega (arith, el))
right-at (c ∷ ls) rs (v ∷ l) r name el er =
    next v (l ++ r) (position_or_len (named (right_name name)) (map (renamed left_name) ls ++ map (renamed right_name) rs)) ∙ right-at ls rs l r name (omega (arith, el)) er

pub left-value : (left right : Shape) (l r : Row) (name : List ℕ) → length l ≡ length left.columns → length r ≡ length right.columns
    → value_in (side_by_side left right) (beside l r) (col.Name (left_name name)) ≡ value_in left (in_version 0 l) (col.Name name)
left-value left right l r name el er = left-at left.columns right.columns l r name el er

pub right-value : (left right : Shape) (l r : Row) (name : List ℕ) → length l ≡ length left.columns → length r ≡ length right.columns
    → value_in (side_by_side left right) (beside l r) (col.Name (right_name name)) ≡ value_in right (in_version 0 r) (col.Name name)
right-value left right l r name el er = right-at left.columns right.columns l r name el er
