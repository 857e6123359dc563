-- Which partition each version is in, as a list of entries.
--     number_at vid index      the number that the index has for a version, 0 where it has none
--     number_of vid parts      the number of the partition that serves a version, 0 where none does
--     IsIndex index parts      the index is that of these partitions
use Rattle.std.specs.Prelude.{◌≡◌, ℕ, suc, ◌^◌, ◌<◌, ◌≤◌, ◌==◌, cond, List, [], ◌∷◌, length, map, sum_by}
use Rattle.ov_layout.specs.declared.index.Entry.{Entry}
use Rattle.ov_layout.specs.declared.part.Part.{Part}
use Rattle.ov_layout.specs.Parts.{serves}

abbrev pub numbers_of : List Part → List ℕ
numbers_of parts = map (λ part. part.id) parts

abbrev pub vids_of : List Entry → List ℕ
vids_of index = map (λ entry. entry.vid) index

-- The sums below have at most one term that isn't 0.
abbrev pub number_at : ℕ → List Entry → ℕ
number_at vid index = sum_by (λ entry. cond (entry.vid == vid) entry.part 0) index

abbrev pub number_of : ℕ → List Part → ℕ
number_of vid parts = sum_by (λ part. cond (serves vid part) part.id 0) parts

-- how many entries a version has
abbrev pub entry_times : ℕ → List Entry → ℕ
entry_times vid index = sum_by (λ entry. cond (entry.vid == vid) 1 0) index

-- the entries of a partition's versions
abbrev pub entries_for : Part → List Entry
entries_for part = map (λ vid. record { vid = vid; part = part.id }) part.versions

abbrev pub FitsEntry : Entry → Type 0
FitsEntry entry = (entry.vid < 2 ^ 32) × (1 ≤ entry.part)

-- how many versions the partitions have together
abbrev pub versions_in : List Part → ℕ
versions_in parts = sum_by (λ part. length part.versions) parts

-- the vids ascend strictly from least on, and no number is 0
abbrev pub AreEntries : ℕ → List Entry → Type 0
AreEntries least [] = least ≤ 2 ^ 32
AreEntries least (entry ∷ index) = (least ≤ entry.vid) × (1 ≤ entry.part) × AreEntries (suc entry.vid) index

pub record IsIndex (index : List Entry) (parts : List Part) : Type 0 where
  pub entries : AreEntries 0 index
  pub numbers : (vid : ℕ) → number_at vid index ≡ number_of vid parts
  pub count : length index ≡ versions_in parts
