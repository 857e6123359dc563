-- What is read of a dataset for a plan: the lists of all its versions, and the rids of the segments of all its partitions.
--     IsListOf s vid rids, IsPartitionOf records part partition      they are such as the catalog's numbers ask for
--     IsListAt area s vid rids, IsPartitionAt area s part partition      and they stand so on the pages
use Rattle.std.specs.Prelude.{◌≡◌, ◌≤◌, ℕ, List, length}
use Rattle.std.specs.List.{All}
use Rattle.ov_graph.specs.Trees.{vids}
use Rattle.ov_host.specs.declared.area.Extent.{Extent}
use Rattle.ov_member.specs.Rids.{AreRids}
use Rattle.ov_catalog.specs.Numbers.{PartNumbers}
use Rattle.ov_fetch.specs.Extents.{IsList}
use Rattle.ov_fetch.specs.Rows.{HaveRids}
use Rattle.ov_match.specs.Matching.{AreSegments}
use Rattle.ov_read.specs.Agreement.{Agrees, Numbers, PartAgrees, list_of}
use Rattle.ov_targets.specs.declared.candidates.Partition.{Partition}

abbrev pub all_vids : Numbers → List ℕ
all_vids s = vids (length s.versions)

-- a version's list agrees with its numbers, and has no rid over the number of the dataset's records
pub record IsListOf (s : Numbers) (vid : ℕ) (rids : List ℕ) : Type 0 where
  pub set : AreRids rids
  pub agrees : Agrees s vid rids
  pub within : All (λ rid. rid ≤ s.records) rids

-- each of these sets has a rid
abbrev pub AreFilled : List (List ℕ) → Type 0
AreFilled sets = All (λ rids. 1 ≤ length rids) sets

-- a partition by its number, its versions and the rids of its segments, which agree with its numbers where the dataset has so
-- many records, and each of which has a rid
pub record IsPartitionOf (records : ℕ) (part : PartNumbers Extent) (partition : Partition) : Type 0 where
  pub id : partition.id ≡ part.id
  pub versions : partition.versions.items ≡ part.versions
  pub count : length partition.segments.items ≡ length part.segments
  pub agrees : PartAgrees part.records records partition.segments.items
  pub filled : AreFilled partition.segments.items
  pub sound : AreSegments partition.segments.items

pub record IsListAt (area : List ℕ) (s : Numbers) (vid : ℕ) (rids : List ℕ) : Type 0 where
  pub list : IsList area (list_of s vid) rids
  pub is : IsListOf s vid rids

pub record IsPartitionAt (area : List ℕ) (s : Numbers) (part : PartNumbers Extent) (partition : Partition) : Type 0 where
  pub rids : HaveRids s.schema area part.segments partition.segments.items
  pub is : IsPartitionOf s.records part partition
