-- What the steps of reading a journal answer.
use Rattle.std.specs.Prelude.{◌≡◌, ◌≢◌, ◌≤◌, ◌<◌, ◌⊎◌, ℕ, ◌+◌, true, List, ◌∷◌, ◌++◌, length, drop, slice_index, Option, Some, None, Result, Ok, Err}
use Rattle.std.specs.List.{flat_map}
use Rattle.ov_host.specs.Host.{State}
use Rattle.ov_journal.specs.declared.errors.JournalErr.{JournalErr}
use Rattle.ov_journal.specs.declared.errors.JournalErr.TheVariants as errors
use Rattle.ov_journal.specs.Bytes.{Slot, IsHeader, number_at, record_of}
use Rattle.ov_journal.specs.Journal.{HasNoSlot}

-- nothing but the count of faults changed
pub record Looked (old new : State) : Type 0 where
  pub told : new.tells ≡ old.tells
  pub kept : new.keeps ≡ old.keeps
  pub tape : old.tells ≡ true → new.tape ≡ old.tape
  pub faults : old.faults ≤ new.faults
  pub fetched : new.fetched ≡ old.fetched

-- an answer that says nothing of the bytes
abbrev pub IsOutside : JournalErr → Type 0
IsOutside errors.Host = Unit {0}
IsOutside errors.Memory = Unit {0}
IsOutside errors.NotAStore = ⊥
IsOutside (errors.Format found) = ⊥
IsOutside (errors.Damaged place) = ⊥

-- why a header isn't taken
abbrev pub RefusesHeader : JournalErr → List ℕ → Type 0
RefusesHeader errors.Host head = ⊥
RefusesHeader errors.Memory head = ⊥
RefusesHeader errors.NotAStore head = (slice_index head 0 ≢ 165) ⊎ HasNoSlot head
RefusesHeader (errors.Format found) head =
    (place : ℕ) × (slot : Slot) × IsHeader place slot head × ((slot.format ≢ 1) × (slot.format ≢ 2)) × (found ≡ slot.format)
RefusesHeader (errors.Damaged place) head = ⊥

-- the record at a place, where the journal ends at end and these bytes stand from the place on
pub record IsRecord (at end : ℕ) (bytes payload : List ℕ) : Type 0 where
  pub rest : List ℕ
  pub whole : bytes ≡ record_of payload ++ rest
  pub within : at + 5 + length payload < end

-- it passes the journal's end
pub record IsPast (at end : ℕ) (bytes : List ℕ) : Type 0 where
  pub rest : List ℕ
  pub whole : bytes ≡ 165 ∷ rest
  pub past : end ≤ at + 5 + number_at 0 rest

abbrev pub RecordIs : ℕ → ℕ → List ℕ → Result (Option (List ℕ)) JournalErr → Type 0
RecordIs at end bytes (Ok None) = slice_index bytes 0 ≢ 165
RecordIs at end bytes (Ok (Some payload)) = IsRecord at end bytes payload
RecordIs at end bytes (Err errors.Host) = Unit {0}
RecordIs at end bytes (Err errors.Memory) = Unit {0}
RecordIs at end bytes (Err errors.NotAStore) = ⊥
RecordIs at end bytes (Err (errors.Format found)) = ⊥
RecordIs at end bytes (Err (errors.Damaged place)) = (place ≡ at) × IsPast at end bytes

-- The records from a place on are these, and the gate at end is closed.
pub record AreRecords (start end : ℕ) (bytes : List ℕ) (payloads : List (List ℕ)) : Type 0 where
  pub gate : ℕ
  pub rest : List ℕ
  pub closed : gate ≢ 165
  pub whole : drop start bytes ≡ flat_map record_of payloads ++ gate ∷ rest
  pub there : end ≡ start + length (flat_map record_of payloads)

-- Some records stand from a place on, and the one behind them passes the journal's end.
pub record PassAt (start limit place : ℕ) (bytes : List ℕ) : Type 0 where
  pub payloads : List (List ℕ)
  pub rest : List ℕ
  pub whole : drop start bytes ≡ flat_map record_of payloads ++ 165 ∷ rest
  pub there : place ≡ start + length (flat_map record_of payloads)
  pub below : place < limit
  pub past : limit ≤ place + 5 + number_at 0 rest

abbrev pub RecordsAre : ℕ → ℕ → List ℕ → Result (ℕ × List (List ℕ)) JournalErr → Type 0
RecordsAre start limit bytes (Ok read) = AreRecords start read.0 bytes read.1
RecordsAre start limit bytes (Err errors.Host) = Unit {0}
RecordsAre start limit bytes (Err errors.Memory) = Unit {0}
RecordsAre start limit bytes (Err errors.NotAStore) = ⊥
RecordsAre start limit bytes (Err (errors.Format found)) = ⊥
RecordsAre start limit bytes (Err (errors.Damaged place)) = PassAt start limit place bytes
