-- The records of a snapshot as bytes, and how much room they take.
use Rattle.std.specs.Prelude.{ℕ, zero, suc, ◌+◌, if◌then◌else◌, List, [], ◌∷◌, ◌++◌, length, take, drop, slice_index}
use Rattle.std.specs.List.{flat_map}
use Rattle.ov_journal.specs.Bytes.{is_open, number_at, record_of}

-- the records of these payloads with open gates, and a closed gate behind them
abbrev pub frames_of : List (List ℕ) → List ℕ
frames_of payloads = flat_map record_of payloads ++ 0 ∷ []

-- how many bytes that are
abbrev pub size_of : List (List ℕ) → ℕ
size_of payloads = length (flat_map record_of payloads) + 1

-- the payloads of the records that these bytes begin with, of so many at most
unfoldable pub framed_in : ℕ → List ℕ → List (List ℕ)
framed_in zero bytes = []
framed_in (suc most) bytes =
    if is_open (slice_index bytes 0)
    then take (number_at 1 bytes) (drop 5 bytes) ∷ framed_in most (drop (5 + number_at 1 bytes) bytes)
    else []

-- the payloads of the records that these bytes begin with
abbrev pub payloads_in : List ℕ → List (List ℕ)
payloads_in bytes = framed_in (length bytes) bytes
