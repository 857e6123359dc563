-- What is read of the page area's bytes. A page counts as there where all of its 4,096 bytes are, so the bytes of an extent
-- whose pages are there stand whole.
--     readings_of pages      what the extents have
--     SameLive es old new      the pages of these extents are there, and their own bytes are the same
use Rattle.std.specs.Prelude.{◌≡◌, ◌≤◌, ◌<◌, ◌⊎◌, ℕ, ◌+◌, ◌*◌, ◌/◌, ◌==◌, if◌then◌else◌, List, [], ◌∷◌, length, take, drop, slice_index, Option, None}
use Rattle.ov_host.specs.declared.area.Extent.{Extent}
use Rattle.ov_catalog.specs.Extents.{covers}
use Rattle.ov_catalog.specs.Stands.{Readings}
use Rattle.law_image.specs.Lists.{list_in}
use Rattle.law_image.specs.Segments.{segment_in}

-- how many pages are there
abbrev pub pages_in : List ℕ → ℕ
pages_in pages = length pages / 4096

-- from the extent's place on: as many bytes as it has, or fewer where the area ends before
abbrev pub extent_bytes : List ℕ → Extent → List ℕ
extent_bytes pages e = take e.bytes (drop (4096 * e.page) pages)

abbrev pub IsWhole : List ℕ → Extent → Type 0
IsWhole pages e = length (extent_bytes pages e) ≡ e.bytes

-- what is read of an extent's bytes; None where they don't stand whole
abbrev pub read_whole : {X : Type 0} → (List ℕ → Option X) → List ℕ → Extent → Option X
read_whole read pages e = if length (extent_bytes pages e) == e.bytes then read (extent_bytes pages e) else None

abbrev pub readings_of : List ℕ → Readings
readings_of pages = record {
  list = read_whole list_in pages;
  segment = read_whole segment_in pages;
  pages = pages_in pages;
}

-- the place is that of a byte of one of these extents
abbrev pub IsUsed : List Extent → ℕ → Type 0
IsUsed [] p = ⊥
IsUsed (e ∷ es) p = ((4096 * e.page ≤ p) × (p < 4096 * e.page + e.bytes)) ⊎ IsUsed es p

pub record SameLive (es : List Extent) (old new : List ℕ) : Type 0 where
  pub there : (page : ℕ) → 1 ≤ covers es page → page < pages_in new
  pub same : (p : ℕ) → IsUsed es p → slice_index new p ≡ slice_index old p
