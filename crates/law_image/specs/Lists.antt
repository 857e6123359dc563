-- Lists, read from bytes.
--     list_in bytes      the rids, exactly where the bytes are a list
use Rattle.std.specs.Prelude.{ℕ, zero, suc, ◌+◌, ◌^◌, Bool, true, ◌&&◌, nat_le, nat_lt, if◌then◌else◌, List, [], ◌∷◌, length, take, drop, Option, Some, None}
use Rattle.std.specs.Int.{w32, from_be_bytes}
use Rattle.std.specs.Str.{bytes_eq}
use Rattle.ov_member.specs.Lists.{Range, rids_of, bytes_of}

-- the number that the first four bytes say
abbrev pub number_at : List ℕ → ℕ
number_at bytes = from_be_bytes w32 (take 4 bytes)

abbrev pub range_at : List ℕ → Range
range_at bytes = record { first = number_at bytes; count = number_at (drop 4 bytes) }

-- what the bytes say in pieces of eight, at most so many
abbrev pub ranges_in : ℕ → List ℕ → List Range
ranges_in zero bytes = []
ranges_in (suc most) [] = []
ranges_in (suc most) (byte ∷ bytes) = range_at (byte ∷ bytes) ∷ ranges_in most (drop 8 (byte ∷ bytes))

-- whether each range may follow the one before it
abbrev pub are_apart : ℕ → List Range → Bool
are_apart past [] = true
are_apart past (range ∷ ranges) =
    (nat_lt past range.first && (nat_lt 0 range.count && nat_le (range.first + range.count) (2 ^ 31 + 1)))
    && are_apart (range.first + range.count) ranges

-- the rids of ranges, where they are a list's and these are its bytes
abbrev pub list_of : List Range → List ℕ → Option (List ℕ)
list_of ranges bytes = if are_apart 0 ranges && bytes_eq (bytes_of ranges) bytes then Some (rids_of ranges) else None

abbrev pub list_in : List ℕ → Option (List ℕ)
list_in bytes = list_of (ranges_in (length bytes) bytes) bytes
