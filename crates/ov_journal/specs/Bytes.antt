-- The bytes of a journal: a header with two slots, and records.
use Rattle.std.specs.Prelude.{◌≡◌, ◌≤◌, ◌<◌, ℕ, ◌+◌, Bool, nat_lt, ◌==◌, if◌then◌else◌, List, ◌∷◌, [], ◌++◌, length, take, drop, slice_index, Option, Some, None}
use Rattle.std.specs.Int.{w32, to_be_bytes, from_be_bytes}
use Rattle.ov_journal.specs.declared.header.Side.{Side}
use Rattle.ov_journal.specs.declared.header.Side.TheVariants.{First, Second}

-- a gate is open exactly where it is A5
abbrev pub is_open : ℕ → Bool
is_open gate = gate == 165

-- the text behind the header's gate, `orpheus-cvd`
abbrev pub the_text : List ℕ
the_text = 111 ∷ 114 ∷ 112 ∷ 104 ∷ 101 ∷ 117 ∷ 115 ∷ 45 ∷ 99 ∷ 118 ∷ 100 ∷ []

-- the number in the four bytes from a place on, the greatest byte first
abbrev pub number_at : ℕ → List ℕ → ℕ
number_at place bytes = from_be_bytes w32 (take 4 (drop place bytes))

-- the fields of a slot
pub record Slot : Type 0 where
  pub epoch : ℕ
  pub start : ℕ
  pub format : ℕ

-- what stands behind a slot's gate, where that gate is at this place
abbrev pub slot_at : ℕ → List ℕ → Slot
slot_at place bytes =
    record {
      epoch = number_at (place + 1) bytes;
      start = number_at (place + 5) bytes;
      format = number_at (place + 9) bytes;
    }

-- these fields behind a slot's gate
abbrev pub fields_of : Slot → List ℕ
fields_of slot = to_be_bytes w32 slot.epoch ++ to_be_bytes w32 slot.start ++ to_be_bytes w32 slot.format

-- the places from a first one up to a last one, which is left out, have the same bytes
abbrev pub AreSame : ℕ → ℕ → List ℕ → List ℕ → Type 0
AreSame from to b c = (p : ℕ) → from ≤ p → p < to → slice_index c p ≡ slice_index b p

-- the place of a slot's gate
abbrev pub place_of : Side → ℕ
place_of First = 12
place_of Second = 25

-- the other slot
abbrev pub other_of : Side → Side
other_of First = Second
other_of Second = First

-- the place of the slot with the greater epoch
abbrev pub greater_of : ℕ → ℕ → Option ℕ
greater_of first second = if first == second then None else if nat_lt second first then Some 12 else Some 25

-- the place of the live slot: the open one with the greater epoch
abbrev pub live_place : List ℕ → Option ℕ
live_place head =
    if is_open (slice_index head 12)
    then (if is_open (slice_index head 25) then greater_of (number_at 13 head) (number_at 26 head) else Some 12)
    else (if is_open (slice_index head 25) then Some 25 else None)

-- an open header whose live slot stands at this place and has these fields
pub record IsHeader (place : ℕ) (slot : Slot) (head : List ℕ) : Type 0 where
  pub opened : slice_index head 0 ≡ 165
  pub text : take 11 (drop 1 head) ≡ the_text
  pub live : live_place head ≡ Some place
  pub fields : slot_at place head ≡ slot

-- this slot is the live one, and this is whether the other's gate is open
pub record IsLive (side : Side) (spare_open : Bool) (head : List ℕ) : Type 0 where
  pub live : live_place head ≡ Some (place_of side)
  pub spare : is_open (slice_index head (place_of (other_of side))) ≡ spare_open

-- a record behind its gate: the payload's length and the payload
abbrev pub body : List ℕ → List ℕ
body payload = to_be_bytes w32 (length payload) ++ payload

-- a record with its gate, open
abbrev pub record_of : List ℕ → List ℕ
record_of payload = 165 ∷ body payload
