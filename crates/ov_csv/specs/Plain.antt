-- Texts in which no quote stands and no carriage return, and how they are cut.
--     IsPlain bytes      so are these bytes
--     field_end bytes      how many bytes stand before the first comma or line feed
--     IsNext bytes fields found      the record that `csv` reads first, and the bytes behind it
use Rattle.std.specs.Prelude.{◌≡◌, ℕ, suc, ◌==◌, ◌||◌, Bool, true, false, map, if◌then◌else◌, List, [], ◌∷◌, Option, Some, None}
use Rattle.std.specs.List.{list_all}
use Rattle.std.specs.Str.{is_utf8, IsAscii}
use Rattle.csv.specs.Machine.{Read, next_record}
use Rattle.csv.specs.Reading.{default_config}
use Rattle.csv.specs.declared.parser.State.TheVariants as st
use Rattle.std.specs.Borrow.{Bor}
use Rattle.ov_csv.specs.Lines.{records_after}

abbrev pub IsPlain : List ℕ → Type 0
IsPlain [] = Unit {0}
IsPlain (b ∷ bytes) = (b == 34 ≡ false) × (b == 13 ≡ false) × IsPlain bytes

-- the bytes of slices
abbrev pub slices : List (Bor (List ℕ)) → List (List ℕ)
slices cuts = map (λ s. s.now) cuts

-- of a record that was cut, or of another
abbrev pub fields_in : Bool → List (Bor (List ℕ)) → List (List ℕ) → List (List ℕ)
fields_in true cuts other = slices cuts
fields_in false cuts other = other

-- of ASCII, fields are texts, and what is behind them is ASCII
abbrev pub StaysAscii : List ℕ → List (List ℕ) → List ℕ → Type 0
StaysAscii bytes fields rest = IsAscii bytes → (list_all is_utf8 fields ≡ true) × IsAscii rest

abbrev pub field_end : List ℕ → ℕ
field_end [] = 0
field_end (b ∷ bytes) = if b == 44 || b == 10 then 0 else suc (field_end bytes)

-- the record that these bytes begin with
abbrev pub begun : List ℕ → Option Read
begun [] = None
begun (b ∷ bytes) = next_record default_config st.InField [] [] (b ∷ bytes)

-- behind line feeds, which are no record
abbrev pub Skips : List ℕ → List ℕ → Type 0
Skips bytes rest = (next_record default_config st.StartRecord [] [] bytes ≡ begun rest) × IsPlain rest × (IsAscii bytes → IsAscii rest)

abbrev pub Cuts : List ℕ → List (List ℕ) → List ℕ → Type 0
Cuts bytes fields rest = (next_record default_config st.InField [] [] bytes ≡ Some (fields, st.StartRecord, rest)) × IsPlain rest × StaysAscii bytes fields rest

abbrev pub IsNext : List ℕ → List (List ℕ) → Option (Bor (List ℕ)) → Type 0
IsNext bytes fields None = next_record default_config st.StartRecord [] [] bytes ≡ None
IsNext bytes fields (Some rest) = (next_record default_config st.StartRecord [] [] bytes ≡ Some (fields, st.StartRecord, rest.now)) × IsPlain rest.now × StaysAscii bytes fields rest.now

-- the records that are left of a text that is cut, or of another
abbrev pub all_left : Option (Bor (List ℕ)) → List (List (List ℕ)) → List (List (List ℕ))
all_left None other = other
all_left (Some rest) other = records_after st.StartRecord (Some rest.now)

abbrev pub CanCut : Bool → Option (Bor (List ℕ)) → Type 0
CanCut ascii None = Unit {0}
CanCut ascii (Some rest) = IsPlain rest.now × (ascii ≡ true → IsAscii rest.now)
