-- What the bytes of the journal's area are.
use Rattle.std.specs.Prelude.{◌≡◌, ◌≢◌, ◌≤◌, ◌<◌, ◌⊎◌, ℕ, ◌+◌, ◌^◌, min, List, [], ◌∷◌, ◌++◌, length, take, drop, slice_index, None}
use Rattle.std.specs.List.{flat_map}
use Rattle.ov_journal.specs.Bytes.{Slot, IsHeader, the_text, live_place, number_at, record_of}

-- what a journal says: the live slot's fields, and the payloads of the live half's records
pub record Kept : Type 0 where
  pub epoch : ℕ
  pub start : ℕ
  pub format : ℕ
  pub payloads : List (List ℕ)

abbrev pub slot_of : Kept → Slot
slot_of kept = record { epoch = kept.epoch; start = kept.start; format = kept.format }

-- the place of the first closed gate
abbrev pub end_of : Kept → ℕ
end_of kept = kept.start + length (flat_map record_of kept.payloads)

-- and one payload more
abbrev pub and_one : Kept → List ℕ → Kept
and_one kept payload =
    record { epoch = kept.epoch; start = kept.start; format = kept.format; payloads = kept.payloads ++ payload ∷ [] }

-- a new journal
abbrev pub new_kept : Kept
new_kept = record { epoch = 1; start = 38; format = 2; payloads = [] }

-- a known format number
abbrev pub IsKnown : ℕ → Type 0
IsKnown format = (format ≡ 1) ⊎ (format ≡ 2)

-- The bytes before a gate of the live half: an open header, and from the live start on these records and nothing else.
-- The gate lies below 2^28.
pub record IsFront (kept : Kept) (front : List ℕ) : Type 0 where
  pub place : ℕ
  pub header : IsHeader place (slot_of kept) (take 38 front)
  pub known : IsKnown kept.format
  pub low : 38 ≤ kept.start
  pub start : kept.start ≤ length front
  pub records : drop kept.start front ≡ flat_map record_of kept.payloads
  pub fits : length front < 2 ^ 28

-- A journal: its front, and a closed gate. What stands behind that gate may be any bytes.
pub record IsJournal (kept : Kept) (bytes : List ℕ) : Type 0 where
  pub front : List ℕ
  pub gate : ℕ
  pub rest : List ℕ
  pub closed : gate ≢ 165
  pub whole : bytes ≡ front ++ gate ∷ rest
  pub begins : IsFront kept front

-- the end of the journal: the lesser of the area's length and 2^28
abbrev pub journal_end : List ℕ → ℕ
journal_end bytes = min (length bytes) (2 ^ 28)

-- no header was made yet
abbrev pub IsUnmade : List ℕ → Type 0
IsUnmade bytes = (length bytes < 39) ⊎ ((length bytes ≡ 39) × (slice_index bytes 0 ≢ 165))

-- a header may be there
abbrev pub MayBeMade : List ℕ → Type 0
MayBeMade bytes = (39 < length bytes) ⊎ ((length bytes ≡ 39) × (slice_index bytes 0 ≡ 165))

-- another text than a journal's, or no live slot
abbrev pub HasNoSlot : List ℕ → Type 0
HasNoSlot head = (take 11 (drop 1 head) ≢ the_text) ⊎ (live_place head ≡ None)

-- No journal of a store: a closed first byte before more than 39 bytes, or an open one before another text, or with no
-- live slot.
abbrev pub IsForeign : List ℕ → Type 0
IsForeign bytes =
    ((39 < length bytes) × (slice_index bytes 0 ≢ 165))
    ⊎ ((39 ≤ length bytes) × (slice_index bytes 0 ≡ 165) × HasNoSlot (take 38 bytes))

-- a journal whose live slot has a format number that isn't known
pub record IsOfFormat (found : ℕ) (bytes : List ℕ) : Type 0 where
  pub long : 39 ≤ length bytes
  pub place : ℕ
  pub slot : Slot
  pub header : IsHeader place slot (take 38 bytes)
  pub unknown : (slot.format ≢ 1) × (slot.format ≢ 2)
  pub number : found ≡ slot.format

-- the live start of the slot at this place is out of range
pub record StartsOff (place : ℕ) (bytes : List ℕ) : Type 0 where
  pub long : 39 ≤ length bytes
  pub slot : Slot
  pub header : IsHeader place slot (take 38 bytes)
  pub known : IsKnown slot.format
  pub off : (slot.start < 38) ⊎ (journal_end bytes ≤ slot.start)

-- the record whose open gate is at this place, or the gate behind it, passes the journal's end
pub record PassesEnd (place : ℕ) (bytes : List ℕ) : Type 0 where
  pub kept : Kept
  pub front : List ℕ
  pub rest : List ℕ
  pub begins : IsFront kept front
  pub whole : bytes ≡ front ++ 165 ∷ rest
  pub there : place ≡ length front
  pub past : journal_end bytes ≤ place + 5 + number_at 0 rest

-- what the bytes of an area may be
pub data Standing : Type 0 where
  Unmade : Standing
  Foreign : Standing
  OfFormat : (found : ℕ) → Standing
  DamagedAt : (place : ℕ) → Standing
  Holds : (kept : Kept) → Standing

abbrev pub AreaIs : Standing → List ℕ → Type 0
AreaIs Unmade bytes = IsUnmade bytes
AreaIs Foreign bytes = IsForeign bytes
AreaIs (OfFormat found) bytes = IsOfFormat found bytes
AreaIs (DamagedAt place) bytes = StartsOff place bytes ⊎ PassesEnd place bytes
AreaIs (Holds kept) bytes = IsJournal kept bytes
