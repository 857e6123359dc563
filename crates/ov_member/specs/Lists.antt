-- A list in bytes: ranges of rids, each as its first rid and its number of rids, in four bytes each, with the
-- greatest byte first.
use Rattle.std.specs.Prelude.{◌≡◌, ℕ, zero, suc, ◌+◌, ◌^◌, ◌<◌, ◌≤◌, ◌==◌, if◌then◌else◌, List, [], ◌∷◌, ◌++◌}
use Rattle.std.specs.List.{flat_map}
use Rattle.std.specs.Int.{w32, to_be_bytes}

-- count rids from first on
pub record Range : Type 0 where
  pub first : ℕ
  pub count : ℕ

-- so many numbers from first on, one by one
unfoldable pub run : ℕ → ℕ → List ℕ
run first zero = []
run first (suc count) = first ∷ run (suc first) count

-- the rids of ranges, one range after the other
abbrev pub rids_of : List Range → List ℕ
rids_of ranges = flat_map (λ range. run range.first range.count) ranges

-- Each range has at least one rid and begins at least 2 past the last rid of the range before it, that
-- is above past, which is one past that rid. No rid is above 2^31.
abbrev pub AreApart : ℕ → List Range → Type 0
AreApart past [] = Unit {0}
AreApart past (range ∷ ranges) = (past < range.first) × (0 < range.count) × (range.first + range.count ≤ 2 ^ 31 + 1) × AreApart (range.first + range.count) ranges

abbrev pub AreRanges : List Range → Type 0
AreRanges ranges = AreApart 0 ranges

abbrev pub range_bytes : Range → List ℕ
range_bytes range = to_be_bytes w32 range.first ++ to_be_bytes w32 range.count

abbrev pub bytes_of : List Range → List ℕ
bytes_of ranges = flat_map range_bytes ranges

-- the bytes are a list, and it has these rids
pub record Spells (bytes rids : List ℕ) : Type 0 where
  pub ranges : List Range
  pub apart : AreRanges ranges
  pub written : bytes ≡ bytes_of ranges
  pub listed : rids ≡ rids_of ranges

-- a rid in front of ranges that lie above it: the first range takes it in where it begins right after it
abbrev pub in_front : ℕ → List Range → List Range
in_front rid [] = record { first = rid; count = 1 } ∷ []
in_front rid (range ∷ ranges) = if range.first == suc rid then record { first = rid; count = suc range.count } ∷ ranges else record { first = rid; count = 1 } ∷ range ∷ ranges

-- the ranges of ascending rids: successive rids share one
abbrev pub ranges_of : List ℕ → List Range
ranges_of [] = []
ranges_of (rid ∷ rids) = in_front rid (ranges_of rids)

-- the one spelling of ascending rids
abbrev pub spelling : List ℕ → List ℕ
spelling rids = bytes_of (ranges_of rids)
