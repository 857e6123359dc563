-- Writes to the page area, none of which is settled.
use Rattle.std.specs.Prelude.{◌≡◌, ◌<◌, ◌≤◌, ℕ, true, List, length, slice_index}
use Rattle.ov_host.specs.Disk.{Disk, Image, Leaves, IsWritten, settled}
use Rattle.ov_host.specs.Host.{State}
use Rattle.ov_host.specs.Stops.{Only}
use Rattle.ov_host.specs.Tape.{Tape}

-- Since a disk with nothing pending in its pages, of the places that it had only those in these ranges were written, and
-- none was settled.
pub record Grows (free : List (ℕ × ℕ)) (d e : Disk) : Type 0 where
  pub synced : e.pages.synced ≡ length d.pages.bytes
  pub written : (p : ℕ) → p < length d.pages.bytes → IsWritten e.pages.written p → IsWritten free p
  pub longer : length d.pages.bytes ≤ length e.pages.bytes
  pub same : (p : ℕ) → p < length d.pages.bytes → (IsWritten free p → ⊥) → slice_index e.pages.bytes p ≡ slice_index d.pages.bytes p
  pub journal_same : e.journal ≡ d.journal
  pub printed_same : e.printed ≡ d.printed

-- a stop meanwhile: every place that the disk had has the same byte, but for those in these ranges
pub record StaysOff (free : List (ℕ × ℕ)) (d : Disk) (c : Image) : Type 0 where
  pub long : length d.pages.bytes ≤ length c.pages
  pub same : (p : ℕ) → p < length d.pages.bytes → (IsWritten free p → ⊥) → slice_index c.pages p ≡ slice_index d.pages.bytes p
  pub journal : Leaves d.journal c.journal
  pub printed : c.printed ≡ d.printed

-- calls that write in these ranges, and past the end, since whatever disk
abbrev pub Spreads : List (ℕ × ℕ) → Tape → Tape → Type 0
Spreads free old new = (d : Disk) → Grows free d old.disk → Only old new (StaysOff free d) × Grows free d new.disk

-- each place of the one is in the other
abbrev pub AreIn : List (ℕ × ℕ) → List (ℕ × ℕ) → Type 0
AreIn ranges free = (p : ℕ) → IsWritten ranges p → IsWritten free p

-- Calls that write to the pages in these ranges, and past the end, and change nothing else, whatever they answer.
pub record Puts (ranges : List (ℕ × ℕ)) (old new : State) : Type 0 where
  pub told : new.tells ≡ old.tells
  pub kept : new.keeps ≡ old.keeps
  pub faults : old.faults ≤ new.faults
  pub fetched : new.fetched ≡ old.fetched
  pub journal_same : old.tells ≡ true → new.tape.disk.journal ≡ old.tape.disk.journal
  pub printed_same : old.tells ≡ true → new.tape.disk.printed ≡ old.tape.disk.printed
  pub spreads : old.tells ≡ true → (free : List (ℕ × ℕ)) → AreIn ranges free → Spreads free old.tape new.tape

-- a host that tells its bytes, with nothing pending in its pages
pub record PagesAtRest (s : State) : Type 0 where
  pub told : s.tells ≡ true
  pub rest : s.tape.disk.pages ≡ settled s.tape.disk.pages.bytes
