-- Where the values of a row stand in its bytes, where none of them is NULL.
--     gaps_of columns before      each text and flag with the number of bytes before it, which are ints: so many before the first column, and 8 for each int
--     tail_of columns before      the number of bytes behind the last of them
--     Walks gaps tail bytes      behind each gap a text or a flag stands, and behind the last so many bytes
use Rattle.std.specs.Prelude.{◌≡◌, ℕ, ◌+◌, ◌<◌, List, [], ◌∷◌, length, drop}
use Rattle.ov_value.specs.declared.column.Column.{Column}
use Rattle.ov_value.specs.declared.column.Kind.{Kind}
use Rattle.ov_value.specs.declared.column.Kind.TheVariants as kind
use Rattle.ov_value.specs.declared.plan.Gap.{Gap}
use Rattle.ov_value.specs.Reading.{Begins}
use Rattle.ov_value.specs.Decoding.{front_value, front_rest}

pub record Plan : Type 0 where
  pub gaps : List Gap
  pub tail : ℕ

-- `others` are the gaps of the columns behind one, by the bytes before them
abbrev pub gaps_with : Kind → ℕ → (ℕ → List Gap) → List Gap
gaps_with kind.Int before others = others (before + 8)
gaps_with kind.Text before others = record { before = before; kind = kind.Text } ∷ others 0
gaps_with kind.Flag before others = record { before = before; kind = kind.Flag } ∷ others 0

abbrev pub gaps_of : List Column → ℕ → List Gap
gaps_of [] before = []
gaps_of (column ∷ columns) before = gaps_with column.kind before (gaps_of columns)

abbrev pub tail_with : Kind → ℕ → (ℕ → ℕ) → ℕ
tail_with kind.Int before others = others (before + 8)
tail_with kind.Text before others = others 0
tail_with kind.Flag before others = others 0

abbrev pub tail_of : List Column → ℕ → ℕ
tail_of [] before = before
tail_of (column ∷ columns) before = tail_with column.kind before (tail_of columns)

abbrev pub plan_of : List Column → Plan
plan_of columns = record { gaps = gaps_of columns 0; tail = tail_of columns 0 }

-- a text or a flag behind so many bytes
pub record StandsBehind (gap : Gap) (bytes : List ℕ) : Type 0 where
  pub low : gap.before < length bytes
  pub begins : Begins gap.kind (drop gap.before bytes) (front_value gap.kind (drop gap.before bytes)) (front_rest gap.kind (drop gap.before bytes))

abbrev pub Walks : List Gap → ℕ → List ℕ → Type 0
Walks [] tail bytes = length bytes ≡ tail
Walks (gap ∷ gaps) tail bytes = StandsBehind gap bytes × Walks gaps tail (front_rest gap.kind (drop gap.before bytes))
