-- The rows of generated versions.
--     Source      a generator: what it draws from next, and the number of rows of version 1
--     IsRowOf id row      a row that may be drawn with this id
--     IsGrown count vid rows      the rows of a version before `vid`: those with the ids 1 to `count`, and then fresh ones
use Rattle.std.specs.Prelude.{◌≡◌, ℕ, zero, suc, ◌+◌, ◌<◌, ◌≤◌, List, [], ◌∷◌, ◌++◌, length, codes, pos}
use Rattle.std.specs.Fmt.{decimal}
use Rattle.ov_value.specs.declared.value.Value.TheVariants.{Int, Text}
use Rattle.ov_value.specs.Spelling.{row_spelling}
use Rattle.ov_model.specs.Book.{Row}

pub record Source : Type 0 where
  pub state : ℕ
  pub rows : ℕ

-- the row of an id, a number below 1000 and a text of a number below 100
pub record IsRowOf (id : ℕ) (row : Row) : Type 0 where
  pub number : ℕ
  pub label : ℕ
  pub number_small : number < 1000
  pub label_small : label < 100
  pub is : row ≡ Int (pos id) ∷ Int (pos number) ∷ Text (codes "t" ++ decimal label) ∷ []

-- rows whose ids ascend, from `id` on and below `end`
abbrev pub Ascend : ℕ → ℕ → List Row → Type 0
Ascend id end [] = Unit {0}
Ascend id end (row ∷ rows) = (n : ℕ) × (id ≤ n) × (n < end) × IsRowOf n row × Ascend (n + 1) end rows

-- so many rows with the ids from `id` on, one after the other, and then rows whose ids ascend and are below `end`
abbrev pub Begin : ℕ → ℕ → ℕ → List Row → Type 0
Begin zero id end rows = Ascend id end rows
Begin (suc count) id end [] = ⊥
Begin (suc count) id end (row ∷ rows) = IsRowOf id row × Begin count (id + 1) end rows

-- version `vid` brings the row with the id `count + vid`, so those before it have only lesser ids
abbrev pub IsGrown : ℕ → ℕ → List Row → Type 0
IsGrown count vid rows = Begin count 1 (count + vid) rows

-- a row of at most 65,536 bytes
abbrev pub IsShort : Row → Type 0
IsShort row = length (row_spelling row).bytes ≤ 65536
