-- What is damaged of what is read for a plan, and which page names it.
--     HasHighRid area s page      a version's list has a rid over the number of the dataset's records
--     IsBadPart area s part page      a partition is damaged, or doesn't bear out its numbers
--     IsListDamage area s page      a version's list is damaged, or has such a rid
--     RefusesAllLists e area s, RefusesParts e area s      why the lists, or the partitions, aren't had
--     RefusesPlan e area s      why there is no plan
use Rattle.std.specs.Prelude.{◌≡◌, ◌⊎◌, ◌≤◌, ℕ, List, []}
use Rattle.std.specs.List.{All, Contains}
use Rattle.ov_host.specs.declared.area.Extent.{Extent}
use Rattle.ov_segment.specs.declared.numbered.Record.{Record}
use Rattle.ov_value.specs.Shapes.{Shape}
use Rattle.ov_model.specs.Lists.{IsIn}
use Rattle.ov_catalog.specs.Numbers.{PartNumbers}
use Rattle.ov_fetch.specs.declared.errors.FetchErr.{FetchErr}
use Rattle.ov_fetch.specs.declared.errors.FetchErr.TheVariants.{Host, Memory, Damaged}
use Rattle.ov_fetch.specs.Extents.{IsList}
use Rattle.ov_fetch.specs.Rows.{AreSegments, HasNoSegment}
use Rattle.ov_read.specs.Agreement.{IsThere, Numbers, list_of}
use Rattle.ov_read.specs.Damages.{HasBadList, PartDisagrees, first_page}
use Rattle.ov_optimize.specs.Reading.{all_vids}

-- the list is whole, and one of its rids is over the number of the dataset's records; this is its first page
pub record HasHighRid (area : List ℕ) (s : Numbers) (page : ℕ) : Type 0 where
  pub vid : ℕ
  pub there : IsThere s vid
  pub rids : List ℕ
  pub list : IsList area (list_of s vid) rids
  pub high : All (λ rid. rid ≤ s.records) rids → ⊥
  pub page_is : page ≡ (list_of s vid).page

-- the segments are whole, and one of them has no record
pub record HasEmptySegment (schema : Shape) (area : List ℕ) (segments : List Extent) : Type 0 where
  pub contents : List (List Record)
  pub read : AreSegments schema area segments contents
  pub empty : Contains contents []

-- a segment is short or off its grammar, and this is its first page; or all are whole, and they disagree with the numbers of the
-- partition, or one has no record, and this is the first page of the first one
abbrev pub IsBadPart : List ℕ → Numbers → PartNumbers Extent → ℕ → Type 0
IsBadPart area s part page =
    HasNoSegment s.schema area part.segments page
    ⊎ ((page ≡ first_page part.segments)
    × (PartDisagrees s.schema area part.segments part.records s.records ⊎ HasEmptySegment s.schema area part.segments))

abbrev pub RefusesPartition : FetchErr → List ℕ → Numbers → PartNumbers Extent → Type 0
RefusesPartition Host area s part = Unit {0}
RefusesPartition Memory area s part = Unit {0}
RefusesPartition (Damaged page) area s part = IsBadPart area s part page

pub record HasBadPart (area : List ℕ) (s : Numbers) (page : ℕ) : Type 0 where
  pub part : PartNumbers Extent
  pub among : IsIn s.parts part
  pub bad : IsBadPart area s part page

abbrev pub IsListDamage : List ℕ → Numbers → ℕ → Type 0
IsListDamage area s page = HasBadList area s (all_vids s) page ⊎ HasHighRid area s page

-- of the lists of all versions alone
abbrev pub RefusesAllLists : FetchErr → List ℕ → Numbers → Type 0
RefusesAllLists Host area s = Unit {0}
RefusesAllLists Memory area s = Unit {0}
RefusesAllLists (Damaged page) area s = IsListDamage area s page

-- of the partitions alone
abbrev pub RefusesParts : FetchErr → List ℕ → Numbers → Type 0
RefusesParts Host area s = Unit {0}
RefusesParts Memory area s = Unit {0}
RefusesParts (Damaged page) area s = HasBadPart area s page

abbrev pub IsPlanDamage : List ℕ → Numbers → ℕ → Type 0
IsPlanDamage area s page = HasBadList area s (all_vids s) page ⊎ HasHighRid area s page ⊎ HasBadPart area s page

-- want of memory and a fault of the host say nothing of the bytes
abbrev pub RefusesPlan : FetchErr → List ℕ → Numbers → Type 0
RefusesPlan Host area s = Unit {0}
RefusesPlan Memory area s = Unit {0}
RefusesPlan (Damaged page) area s = IsPlanDamage area s page
