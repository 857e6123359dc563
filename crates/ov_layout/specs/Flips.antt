-- What a flip changes: a target becomes a partition.
--     with_flipped flip layout      the layout after it
--     given_up flip parts      the extents that it gives up
--     MayFlip flip parts      what a flip is
use Rattle.std.specs.Prelude.{◌≡◌, ℕ, suc, ◌+◌, ◌<◌, Bool, true, not, ◌==◌, if◌then◌else◌, List, [], ◌∷◌, ◌++◌, map, filter, length, slice_index_or, Some}
use Rattle.ov_host.specs.declared.area.Extent.{Extent}
use Rattle.ov_layout.specs.declared.part.Part.{Part}
use Rattle.ov_layout.specs.declared.room.Room.TheVariants.{Nothing}
use Rattle.ov_layout.specs.Parts.{Partitions, has, is_placed, part_numbered, segments_in, Ascend}

-- a target: its versions, its number of records, the number of the partition whose segments it keeps (0 for none), the
-- places of these segments there, and the segments that were copied for it
pub record Flip : Type 0 where
  pub versions : List ℕ
  pub records : ℕ
  pub source : ℕ
  pub kept : List ℕ
  pub copied : List Extent

abbrev pub flip_of : List ℕ → ℕ → ℕ → List ℕ → List Extent → Flip
flip_of versions records source kept copied =
    record { versions = versions; records = records; source = source; kept = kept; copied = copied }

-- without these versions
abbrev pub leaving : List ℕ → Part → Part
leaving versions part = record part { versions = filter (λ vid. not (has versions vid)) part.versions }

abbrev pub is_empty : Part → Bool
is_empty part = length part.versions == 0

-- the partitions without these versions; a partition without versions goes
abbrev pub left_parts : List ℕ → List Part → List Part
left_parts versions parts = filter (λ part. not (is_empty part)) (map (leaving versions) parts)

-- the segments of the partition with a number
abbrev pub segments_at : ℕ → List Part → List Extent
segments_at id parts = segments_in (part_numbered id parts)

abbrev pub no_extent : Extent
no_extent = record { page = 0; bytes = 0 }

-- the extents at these places
abbrev pub chosen : List ℕ → List Extent → List Extent
chosen places extents = map (λ place. slice_index_or extents place no_extent) places

-- the extents, counted from `at` on, that are at none of these places
abbrev pub others : ℕ → List ℕ → List Extent → List Extent
others at places [] = []
others at places (extent ∷ extents) =
    if has places at then others (suc at) places extents else extent ∷ others (suc at) places extents

abbrev pub flipped_part : ℕ → Flip → List Part → Part
flipped_part id flip parts = record {
  id = id;
  versions = flip.versions;
  holds = flip.versions;
  records = flip.records;
  segments = chosen flip.kept (segments_at flip.source parts) ++ flip.copied;
}

abbrev pub with_flipped : Flip → Partitions → Partitions
with_flipped flip layout = record {
  parts = left_parts flip.versions layout.parts ++ flipped_part layout.next flip layout.parts ∷ [];
  next = layout.next + 1;
  room = Nothing;
}

-- what a partition without versions gives up: its segments, but for those that a flip keeps of its source
abbrev pub parted_with : Flip → Part → List Extent
parted_with flip part = if part.id == flip.source then others 0 flip.kept part.segments else part.segments

-- the extents that a flip gives up, partition by partition
abbrev pub given_up : Flip → List Part → List Extent
given_up flip [] = []
given_up flip (part ∷ parts) =
    if is_empty (leaving flip.versions part) then parted_with flip part ++ given_up flip parts else given_up flip parts

-- each of the versions is placed
abbrev pub ArePlaced : List Part → List ℕ → Type 0
ArePlaced parts [] = Unit {0}
ArePlaced parts (vid ∷ vids) = (is_placed parts vid ≡ true) × ArePlaced parts vids

-- the places are below a number
abbrev pub AreBelow : ℕ → List ℕ → Type 0
AreBelow limit [] = Unit {0}
AreBelow limit (place ∷ places) = (place < limit) × AreBelow limit places

-- the partition with a number, where there is one, loses its last version
abbrev pub IsEmptied : List ℕ → ℕ → List Part → Type 0
IsEmptied versions id parts = (part : Part) → part_numbered id parts ≡ Some part → is_empty (leaving versions part) ≡ true

-- the versions ascend, there is one, and all are placed; the source, if there is one, is emptied; the places of the kept
-- segments ascend within it
pub record MayFlip (flip : Flip) (parts : List Part) : Type 0 where
  pub ascend : Ascend 0 flip.versions
  pub some : 0 < length flip.versions
  pub placed : ArePlaced parts flip.versions
  pub emptied : IsEmptied flip.versions flip.source parts
  pub places : Ascend 0 flip.kept
  pub within : AreBelow (length (segments_at flip.source parts)) flip.kept
