-- A journal on a host, and what its calls leave.
use Rattle.std.specs.Prelude.{◌≡◌, ◌≢◌, ◌≤◌, ◌<◌, ◌⊎◌, ℕ, ◌+◌, Bool, true, List, [], ◌∷◌, length, take, slice_index}
use Rattle.ov_host.specs.Disk.{Disk, Image, Leaves, IsWritten, settled}
use Rattle.ov_host.specs.Host.{State}
use Rattle.ov_host.specs.Tape.{Torn}
use Rattle.ov_journal.specs.declared.header.Side.{Side}
use Rattle.ov_journal.specs.Bytes.{IsLive}
use Rattle.ov_journal.specs.Journal.{Kept, IsJournal, IsUnmade, end_of, new_kept}

-- What a `Journal` keeps in memory: the place of the first closed gate, the live slot's fields, which slot that is, and
-- whether the other's gate is open.
pub record Numbers : Type 0 where
  pub end : ℕ
  pub epoch : ℕ
  pub start : ℕ
  pub format : ℕ
  pub side : Side
  pub spare_open : Bool

-- what it says, with these payloads
abbrev pub kept_by : Numbers → List (List ℕ) → Kept
kept_by numbers payloads =
    record { epoch = numbers.epoch; start = numbers.start; format = numbers.format; payloads = payloads }

-- what every call keeps to, whatever it answers
pub record Passes (old new : State) : Type 0 where
  pub told : new.tells ≡ old.tells
  pub kept : new.keeps ≡ old.keeps
  pub faults : old.faults ≤ new.faults
  pub fetched : new.fetched ≡ old.fetched

-- a host that tells its bytes, with nothing pending in the journal's area
pub record AtRest (s : State) : Type 0 where
  pub told : s.tells ≡ true
  pub rest : s.tape.disk.journal ≡ settled s.tape.disk.journal.bytes

-- the numbers are those that this host's journal bytes give, with these payloads
pub record IsAt (payloads : List (List ℕ)) (numbers : Numbers) (s : State) : Type 0 where
  pub told : s.tells ≡ true
  pub rest : s.tape.disk.journal ≡ settled s.tape.disk.journal.bytes
  pub spells : IsJournal (kept_by numbers payloads) s.tape.disk.journal.bytes
  pub place : numbers.end ≡ end_of (kept_by numbers payloads)
  pub slots : IsLive numbers.side numbers.spare_open (take 38 s.tape.disk.journal.bytes)

-- a stop in a write to the journal
pub record InJournal (at n : ℕ) (d : Disk) (c : Image) : Type 0 where
  pub torn : Torn at n d.journal.bytes c.journal
  pub pages : Leaves d.pages c.pages
  pub printed : c.printed ≡ d.printed

-- the old journal, or the new one; all else as it could be left before
pub record IsOldOrNew (old new : Kept) (d : Disk) (c : Image) : Type 0 where
  pub journal : IsJournal old c.journal ⊎ IsJournal new c.journal
  pub pages : Leaves d.pages c.pages
  pub printed : c.printed ≡ d.printed

-- this journal; all else as it could be left before
pub record IsStill (kept : Kept) (d : Disk) (c : Image) : Type 0 where
  pub journal : IsJournal kept c.journal
  pub pages : Leaves d.pages c.pages
  pub printed : c.printed ≡ d.printed

-- so many bytes from a place on, and so many from another one on
abbrev pub two_ranges : ℕ → ℕ → ℕ → ℕ → List (ℕ × ℕ)
two_ranges at n place m = (at, at + n) ∷ (place, place + m) ∷ []

-- any bytes of the journal in these ranges and past its end; all else as it was or could be left before
pub record IsOff (ranges : List (ℕ × ℕ)) (d : Disk) (c : Image) : Type 0 where
  pub long : length d.journal.bytes ≤ length c.journal
  pub same : (p : ℕ) → p < length d.journal.bytes → (IsWritten ranges p → ⊥) → slice_index c.journal p ≡ slice_index d.journal.bytes p
  pub pages : Leaves d.pages c.pages
  pub printed : c.printed ≡ d.printed

-- a journal that is unmade, or new and without a record; all else as it could be left before
pub record IsUnmadeOrNew (d : Disk) (c : Image) : Type 0 where
  pub journal : IsUnmade c.journal ⊎ IsJournal new_kept c.journal
  pub pages : Leaves d.pages c.pages
  pub printed : c.printed ≡ d.printed

-- nothing is pending in the journal's area, which has a closed first byte and no more bytes than a header
pub record IsClosed (s : State) : Type 0 where
  pub told : s.tells ≡ true
  pub rest : s.tape.disk.journal ≡ settled s.tape.disk.journal.bytes
  pub gate : ℕ
  pub behind : List ℕ
  pub closed : gate ≢ 165
  pub whole : s.tape.disk.journal.bytes ≡ gate ∷ behind
  pub short : length behind ≤ 38

-- no page and nothing printed changed
pub record SameButJournal (old new : Disk) : Type 0 where
  pub pages_same : new.pages ≡ old.pages
  pub printed_same : new.printed ≡ old.printed
