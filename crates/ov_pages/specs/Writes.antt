-- Writes into free ranges of the page area, and what a stop meanwhile leaves.
use Rattle.std.specs.Prelude.{◌≡◌, ◌<◌, ◌≤◌, ℕ, ◌+◌, List, length, slice_index}
use Rattle.ov_host.specs.Disk.{Disk, Image, Leaves, IsWritten}

-- Since a disk with nothing pending in its page area, only places in these ranges were written there, and none was
-- settled.
pub record Grows (free : List (ℕ × ℕ)) (d e : Disk) : Type 0 where
  pub synced : e.pages.synced ≡ length d.pages.bytes
  pub written : (p : ℕ) → IsWritten e.pages.written p → IsWritten free p
  pub longer : length d.pages.bytes ≤ length e.pages.bytes
  pub same : (p : ℕ) → p < length d.pages.bytes → (IsWritten free p → ⊥) → slice_index e.pages.bytes p ≡ slice_index d.pages.bytes p
  pub journal : e.journal ≡ d.journal
  pub printed : e.printed ≡ d.printed

-- a stop leaves all bytes of that disk's page area that are off these ranges, and its journal and its output
pub record StaysOff (free : List (ℕ × ℕ)) (d : Disk) (c : Image) : Type 0 where
  pub long : length d.pages.bytes ≤ length c.pages
  pub same : (p : ℕ) → p < length d.pages.bytes → (IsWritten free p → ⊥) → slice_index c.pages p ≡ slice_index d.pages.bytes p
  pub journal : Leaves d.journal c.journal
  pub printed : c.printed ≡ d.printed

-- each of n places from a place on is in these ranges
abbrev pub AreFree : List (ℕ × ℕ) → ℕ → ℕ → Type 0
AreFree free at n = (p : ℕ) → at ≤ p → p < at + n → IsWritten free p
