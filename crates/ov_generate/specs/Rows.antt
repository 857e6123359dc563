-- Rows as they are read back.
--     IsLabel text      the text of a row that may be drawn
--     MayFollow count next end id      the id of a row that may come next, where `next` is one more than the last one
use Rattle.std.specs.Prelude.{◌≡◌, ◌≤◌, ◌<◌, ◌++◌, ◌^◌, ℕ, List, codes}
use Rattle.std.specs.Fmt.{decimal}
use Rattle.ov_value.specs.declared.value.Value.{Value}
use Rattle.ov_value.specs.declared.value.Value.TheVariants.{Int, Text, Flag, Null}
use Rattle.ov_gen.specs.Versions.{IsRowOf}
use Rattle.ov_model.specs.Book.{Row}

pub record IsLabel (text : List ℕ) : Type 0 where
  pub number : ℕ
  pub small : number < 100
  pub is : text ≡ codes "t" ++ decimal number

abbrev pub IsLabelled : Value → Type 0
IsLabelled (Int n) = ⊥
IsLabelled (Text text) = IsLabel text
IsLabelled (Flag b) = ⊥
IsLabelled Null = ⊥

-- up to `count` the ids come one after the other, and then they ascend
pub record MayFollow (count next end id : ℕ) : Type 0 where
  pub from : next ≤ id
  pub below : id < end
  pub first : next ≤ count → id ≡ next

pub record IsNextRow (count next end id : ℕ) (row : Row) : Type 0 where
  pub small : id < 2 ^ 63
  pub row_is : IsRowOf id row
  pub follows : MayFollow count next end id
