-- The bytes that a stop leaves, as a list of bytes picks them.
use Rattle.std.specs.Prelude.{◌≡◌, ◌<◌, ℕ, zero, suc, ◌+◌, ◌%◌, min, max, Bool, false, ◌&&◌, ◌||◌, if◌then◌else◌, nat_lt, nat_le, List, [], ◌∷◌, length, slice_index}
use Rattle.ov_host.specs.Disk.{Stored, Disk, Image}

-- whether the place is in one of these ranges
abbrev pub is_written : List (ℕ × ℕ) → ℕ → Bool
is_written [] p = false
is_written (r ∷ rs) p = (nat_le r.0 p && nat_lt p r.1) || is_written rs p

-- a place whose byte a stop may leave as anything: from the synced length on, or written since
abbrev pub is_doubtful : Stored → ℕ → Bool
is_doubtful a p = nat_le a.synced p || is_written a.written p

-- how many places below this one are doubtful
abbrev pub doubts_below : Stored → ℕ → ℕ
doubts_below a zero = 0
doubts_below a (suc p) = doubts_below a p + (if is_doubtful a p then 1 else 0)

-- The byte that is left at a place. The doubtful bytes take those of `pick` one after another, and again from its start;
-- so many were taken before the area. All others are left as they read.
abbrev pub byte_left : Stored → ℕ → List ℕ → ℕ → ℕ
byte_left a taken pick p =
    if is_doubtful a p then slice_index pick ((taken + doubts_below a p) % length pick) else slice_index a.bytes p

-- the length that was asked for, brought into the range of those that a stop may leave
abbrev pub length_left : Stored → ℕ → ℕ
length_left a asked = max a.synced (min asked a.greatest)

-- these bytes are left of an area
pub record IsPicked (a : Stored) (asked taken : ℕ) (pick c : List ℕ) : Type 0 where
  pub long : length c ≡ length_left a asked
  pub bytes : (p : ℕ) → p < length c → slice_index c p ≡ byte_left a taken pick p

-- this image is left of a disk: the doubtful bytes ascend, those of the pages come first
pub record IsNamed (d : Disk) (pages journal : ℕ) (pick : List ℕ) (c : Image) : Type 0 where
  pub pages_are : IsPicked d.pages pages 0 pick c.pages
  pub journal_is : IsPicked d.journal journal (doubts_below d.pages (length c.pages)) pick c.journal
  pub printed_is : c.printed ≡ d.printed
