-- What runs of whole pages make of the bytes of the page area.
use Rattle.std.specs.Prelude.{◌≡◌, ◌<◌, ℕ, ◌+◌, ◌-◌, ◌*◌, ◌/◌, List, [], ◌∷◌, ◌++◌, length, replicate, slice_index}
use Rattle.ov_host.specs.Disk.{IsWritten}
use Rattle.ov_host.specs.Tape.{overwritten}

-- so many zeros
abbrev pub zeros : ℕ → List ℕ
zeros n = replicate n 0

-- the bytes of the whole pages that hold so many bytes
abbrev pub whole_pages : ℕ → ℕ
whole_pages n = (n + 4095) / 4096 * 4096

-- a run with its last page filled up by zeros
abbrev pub padded : List ℕ → List ℕ
padded bytes = bytes ++ zeros (whole_pages (length bytes) - length bytes)

-- an area that ends before this place, filled up to it by zeros
abbrev pub filled : ℕ → List ℕ → List ℕ
filled at old = old ++ zeros (at - length old)

-- the page area with this run from a page on; a run of no bytes changes nothing
abbrev pub with_run : ℕ → List ℕ → List ℕ → List ℕ
with_run page [] old = old
with_run page (byte ∷ bytes) old = overwritten (filled (page * 4096) old) (page * 4096) (padded (byte ∷ bytes))

-- the places of a run's pages: the first one, and one past the last
abbrev pub range_of : ℕ → List ℕ → ℕ × ℕ
range_of page bytes = (page * 4096, page * 4096 + whole_pages (length bytes))

-- no place is in both
abbrev pub AreOff : List (ℕ × ℕ) → List (ℕ × ℕ) → Type 0
AreOff free live = (p : ℕ) → IsWritten free p → IsWritten live p → ⊥

-- each place is in the area
abbrev pub AreThere : List (ℕ × ℕ) → List ℕ → Type 0
AreThere live bytes = (p : ℕ) → IsWritten live p → p < length bytes

-- these places are there, and have the same bytes
pub record SameOn (live : List (ℕ × ℕ)) (old new : List ℕ) : Type 0 where
  pub there : (p : ℕ) → IsWritten live p → p < length new
  pub same : (p : ℕ) → IsWritten live p → slice_index new p ≡ slice_index old p
