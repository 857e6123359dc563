-- The merge of several versions, with precedence on the key.
--     merged schema lists      the rows that no earlier row has the key of, in key order
use Rattle.std.specs.Prelude.{◌≡◌, Bool, false, if◌then◌else◌, List, [], ◌∷◌, ◌++◌}
use Rattle.std.specs.List.{list_any, flat_map}
use Rattle.std.specs.Ordering.{is_eq, is_lt}
use Rattle.ov_value.specs.Rows.{key_cmp}
use Rattle.ov_value.specs.Shapes.{Shape}
use Rattle.ov_model.specs.Book.{Row}

-- whether one of these rows has the row's key
abbrev pub has_key : Shape → List Row → Row → Bool
has_key schema rows row = list_any (λ r. is_eq (key_cmp schema row r)) rows

-- the rows that no row before them has the key of; `seen` are rows before
abbrev pub firsts : Shape → List Row → List Row → List Row
firsts schema seen [] = []
firsts schema seen (row ∷ rows) =
    if has_key schema seen row then firsts schema (seen ++ row ∷ []) rows
    else row ∷ firsts schema (seen ++ row ∷ []) rows

-- a row put before the first one that has a greater key
abbrev pub placed : Shape → Row → List Row → List Row
placed schema row [] = row ∷ []
placed schema row (r ∷ rs) = if is_lt (key_cmp schema row r) then row ∷ r ∷ rs else r ∷ placed schema row rs

abbrev pub in_key_order : Shape → List Row → List Row
in_key_order schema [] = []
in_key_order schema (row ∷ rows) = placed schema row (in_key_order schema rows)

abbrev pub merged : Shape → List (List Row) → List Row
merged schema lists = in_key_order schema (firsts schema [] (flat_map (λ rows. rows) lists))

-- the row stands among these where no row before it has its key
pub record IsFirst (schema : Shape) (rows : List Row) (row : Row) : Type 0 where
  pub before : List Row
  pub after : List Row
  pub there : rows ≡ before ++ row ∷ after
  pub first : has_key schema before row ≡ false
