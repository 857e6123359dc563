-- What a reader of records has left, as the list of records that its bytes spell.
use Rattle.std.specs.Prelude.{◌≡◌, ◌+◌, ℕ, Bool, true, false, List, [], length, Option, Some, None, IsSome}
use Rattle.csv.specs.declared.parser.State.{State}
use Rattle.csv.specs.declared.parser.State.TheVariants as st
use Rattle.csv.specs.declared.reader.Reader.{Reader}
use Rattle.csv.specs.declared.reader.Trim.TheVariants as trim
use Rattle.csv.specs.Reading.{default_config, records_from, has_failed, reader_config, reader_state, reader_trim, source_of, Ready}

-- the records that the bytes spell from a state on; none of bytes that are not known
abbrev pub records_after : State → Option (List ℕ) → List (List (List ℕ))
records_after state None = []
records_after state (Some bytes) = records_from default_config (length bytes + 1) state bytes

-- the same of a reader that has not ended
abbrev pub left_of : Bool → State → Option (List ℕ) → List (List (List ℕ))
left_of true state bytes = []
left_of false state bytes = records_after state bytes

-- the states in which no record has begun
abbrev pub is_between : State → Bool
is_between st.StartRecord = true
is_between st.AfterCr = true
is_between _ = false

-- the reader reads as it comes, from known bytes, and no record has begun
pub record Reads {R : Type 0} (known : R → Option (List ℕ)) (reader : Reader R) : Type 0 where
  pub going : has_failed reader ≡ false
  pub plain : reader_trim reader ≡ trim.None
  pub ready : Ready reader
  pub config : reader_config reader ≡ default_config
  pub source : IsSome (source_of known reader)
  pub between : is_between (reader_state reader) ≡ true

abbrev pub IsReading : {R : Type 0} → (R → Option (List ℕ)) → Bool → Reader R → Type 0
IsReading known ended reader = ended ≡ false → Reads known reader
