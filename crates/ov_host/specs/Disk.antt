-- The two areas and the output, and what a stop between two calls may leave of them.
use Rattle.std.specs.Prelude.{◌≡◌, ◌<◌, ◌≤◌, ◌⊎◌, ℕ, List, [], ◌∷◌, ◌++◌, length, take, slice_index}
use Rattle.std.proofs.Common.{arith, refl}
use Rattle.ov_host.specs.declared.area.Area.{Area}
use Rattle.ov_host.specs.declared.area.Area.TheVariants.{Pages, Journal}

-- an area: what it reads now, its length at the last successful sync, its greatest length since, and the ranges
-- written since, each from its first place up to its end, which is left out
pub record Stored : Type 0 where
  pub bytes : List ℕ
  pub synced : ℕ
  pub greatest : ℕ
  pub written : List (ℕ × ℕ)

pub record Disk : Type 0 where
  pub pages : Stored
  pub journal : Stored
  pub printed : List ℕ

-- the bytes of both areas and the bytes printed, at one moment
pub record Image : Type 0 where
  pub pages : List ℕ
  pub journal : List ℕ
  pub printed : List ℕ

abbrev pub area_of : Area → Disk → Stored
area_of Pages d = d.pages
area_of Journal d = d.journal

abbrev pub with_area : Area → Stored → Disk → Disk
with_area Pages a d = record { pages = a; journal = d.journal; printed = d.printed }
with_area Journal a d = record { pages = d.pages; journal = a; printed = d.printed }

abbrev pub with_printed : List ℕ → Disk → Disk
with_printed text d = record { pages = d.pages; journal = d.journal; printed = text }

-- the place is in one of these ranges
abbrev pub IsWritten : List (ℕ × ℕ) → ℕ → Type 0
IsWritten [] p = ⊥
IsWritten (r ∷ rs) p = ((r.0 ≤ p) × (p < r.1)) ⊎ IsWritten rs p

-- A stop leaves these bytes of the area: a length from the synced one to the greatest since, and each byte below the
-- synced length that was not written since. All other bytes may be any.
pub record Leaves (a : Stored) (c : List ℕ) : Type 0 where
  pub no_shorter : a.synced ≤ length c
  pub no_longer : length c ≤ a.greatest
  pub same : (p : ℕ) → p < a.synced → (IsWritten a.written p → ⊥) → slice_index c p ≡ slice_index a.bytes p

-- a stop between two calls
pub record MayLeave (d : Disk) (c : Image) : Type 0 where
  pub pages : Leaves d.pages c.pages
  pub journal : Leaves d.journal c.journal
  pub printed : c.printed ≡ d.printed

-- a stop in a print: a prefix of its bytes is printed
pub record MayPrint (d : Disk) (bytes : List ℕ) (c : Image) : Type 0 where
  pub pages : Leaves d.pages c.pages
  pub journal : Leaves d.journal c.journal
  pub count : ℕ
  pub printed : c.printed ≡ d.printed ++ take count bytes

-- an area in which nothing is pending
abbrev pub settled : List ℕ → Stored
settled bytes = record { bytes = bytes; synced = length bytes; greatest = length bytes; written = [] }

-- nothing is pending in either area
pub record AllSettled (d : Disk) : Type 0 where
  pub pages : d.pages ≡ settled d.pages.bytes
  pub journal : d.journal ≡ settled d.journal.bytes

-- what reads now, as an image
abbrev pub as_read : Disk → Image
as_read d = record { pages = d.pages.bytes; journal = d.journal.bytes; printed = d.printed }

-- what reads is what a stop may leave, where nothing is pending
pub settled_leaves_itself : (bytes : List ℕ) → Leaves (settled bytes) bytes
settled_leaves_itself bytes = record { no_shorter = omega arith; no_longer = omega arith; same = λ p below off. refl }

pub settled_reads : (pages journal printed : List ℕ) → MayLeave (record { pages = settled pages; journal = settled journal; printed = printed }) (record { pages = pages; journal = journal; printed = printed })
settled_reads pages journal printed =
    record { pages = settled_leaves_itself pages; journal = settled_leaves_itself journal; printed = refl }
