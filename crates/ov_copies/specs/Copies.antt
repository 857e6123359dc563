-- What a copy brings: records of versions, each out of the partition of a version that has it.
--     IsOnList versions lists vid rid      one of the versions is this one, and its list has the rid
--     IsFrom area s versions lists r      the record is what the partition of a version that has it keeps of its rid
--     AreCopied area s versions lists rids records      so are all of these, and they have these rids
--     IsCopied area s versions lists rids bytes      the bytes are a segment of such records
--     IsSegmentOf schema rids bytes      what is known of the bytes on every host
--     RefusesCopy e area s versions lists rids      why there are none
--     IsFetchedFew before after s versions lists rids      no more of the partitions was fetched than it takes
use Rattle.std.specs.Prelude.{◌≡◌, ◌≤◌, ◌⊎◌, ℕ, ◌+◌, true, List, Some, None, IsSome, slice_get, take}
use Rattle.std.specs.List.{All, sum_by}
use Rattle.ov_host.specs.declared.area.Extent.{Extent}
use Rattle.ov_host.specs.Host.{State}
use Rattle.ov_catalog.specs.Numbers.{PartNumbers}
use Rattle.ov_member.specs.Rids.{has}
use Rattle.ov_value.specs.Shapes.{Shape}
use Rattle.ov_segment.specs.declared.numbered.Record.{Record}
use Rattle.ov_segment.specs.Segments.{AreRecords, segment_spelling}
use Rattle.ov_fetch.specs.declared.errors.FetchErr.{FetchErr}
use Rattle.ov_fetch.specs.declared.errors.FetchErr.TheVariants.{Host, Memory, Damaged}
use Rattle.ov_fetch.specs.Extents.{IsNoSegment, page_bytes, rids_of}
use Rattle.ov_fetch.specs.Rows.{AreSegments, joined, record_of}
use Rattle.ov_read.specs.Agreement.{Numbers, list_of, segments_of, serves}

-- the lists stand beside the versions
pub record IsOnList (versions : List ℕ) (lists : List (List ℕ)) (vid rid : ℕ) : Type 0 where
  pub place : ℕ
  pub version : slice_get versions place ≡ Some vid
  pub list : List ℕ
  pub beside : slice_get lists place ≡ Some list
  pub member : has list rid ≡ true

-- the first so many segments of the version's partition are whole, and this is the first of their records with its rid
pub record IsFrom (area : List ℕ) (s : Numbers) (versions : List ℕ) (lists : List (List ℕ)) (r : Record) : Type 0 where
  pub vid : ℕ
  pub listed : IsOnList versions lists vid r.rid
  pub count : ℕ
  pub contents : List (List Record)
  pub read : AreSegments s.schema area (take count (segments_of s vid)) contents
  pub first : record_of (joined contents) r.rid ≡ Some r

pub record AreCopied (area : List ℕ) (s : Numbers) (versions : List ℕ) (lists : List (List ℕ)) (rids : List ℕ) (records : List Record) : Type 0 where
  pub rids_are : rids_of records ≡ rids
  pub are : AreRecords s.schema 0 records
  pub each : All (IsFrom area s versions lists) records

-- the bytes are a segment, and its records have these rids
pub record IsSegmentOf (schema : Shape) (rids bytes : List ℕ) : Type 0 where
  pub records : List Record
  pub spelled : bytes ≡ segment_spelling records
  pub rids_are : rids_of records ≡ rids
  pub are : AreRecords schema 0 records

pub record IsCopied (area : List ℕ) (s : Numbers) (versions : List ℕ) (lists : List (List ℕ)) (rids bytes : List ℕ) : Type 0 where
  pub records : List Record
  pub spelled : bytes ≡ segment_spelling records
  pub copied : AreCopied area s versions lists rids records

-- ---- damage

-- One of the versions has one of the rids, and the first segments of its partition are whole and have no record of it. The next
-- one is short or off its grammar; this is its first page.
pub record HasBadSegment (area : List ℕ) (s : Numbers) (versions : List ℕ) (lists : List (List ℕ)) (rids : List ℕ) (page : ℕ) : Type 0 where
  pub vid : ℕ
  pub rid : ℕ
  pub listed : IsOnList versions lists vid rid
  pub wanted : has rids rid ≡ true
  pub count : ℕ
  pub contents : List (List Record)
  pub read : AreSegments s.schema area (take count (segments_of s vid)) contents
  pub lacking : record_of (joined contents) rid ≡ None
  pub segment : Extent
  pub next : slice_get (segments_of s vid) count ≡ Some segment
  pub off : IsNoSegment s.schema area segment
  pub page_is : page ≡ segment.page

-- one of the versions has one of the rids, and the segments of its partition are whole and have no record of it; this is the
-- first page of the version's list
pub record LacksWanted (area : List ℕ) (s : Numbers) (versions : List ℕ) (lists : List (List ℕ)) (rids : List ℕ) (page : ℕ) : Type 0 where
  pub vid : ℕ
  pub rid : ℕ
  pub listed : IsOnList versions lists vid rid
  pub wanted : has rids rid ≡ true
  pub contents : List (List Record)
  pub read : AreSegments s.schema area (segments_of s vid) contents
  pub lacking : record_of (joined contents) rid ≡ None
  pub page_is : page ≡ (list_of s vid).page

-- want of memory and a fault of the host say nothing of the bytes
abbrev pub RefusesCopy : FetchErr → List ℕ → Numbers → List ℕ → List (List ℕ) → List ℕ → Type 0
RefusesCopy Host area s versions lists rids = Unit {0}
RefusesCopy Memory area s versions lists rids = Unit {0}
RefusesCopy (Damaged page) area s versions lists rids =
    HasBadSegment area s versions lists rids page ⊎ LacksWanted area s versions lists rids page

-- ---- how much is read

-- the segments are whole, and have a record of each of the rids that is on the list of a version which the partition serves
pub record HasRecords (area : List ℕ) (s : Numbers) (versions : List ℕ) (lists : List (List ℕ)) (rids : List ℕ) (part : PartNumbers Extent) (segments : List Extent) : Type 0 where
  pub contents : List (List Record)
  pub read : AreSegments s.schema area segments contents
  pub there : (vid rid : ℕ) → IsOnList versions lists vid rid → has rids rid ≡ true → serves vid part ≡ true → IsSome (record_of (joined contents) rid)

-- so many first segments of each partition do
abbrev pub AllHave : List ℕ → Numbers → List ℕ → List (List ℕ) → List ℕ → (PartNumbers Extent → ℕ) → Type 0
AllHave area s versions lists rids count = All (λ part. HasRecords area s versions lists rids part (take (count part) part.segments)) s.parts

-- whatever numbers of first segments do, partition by partition, no more bytes were fetched than these segments have
abbrev pub IsFetchedFew : State → State → Numbers → List ℕ → List (List ℕ) → List ℕ → Type 0
IsFetchedFew before after s versions lists rids =
    before.tells ≡ true → (count : PartNumbers Extent → ℕ) → AllHave (page_bytes before) s versions lists rids count
    → after.fetched ≤ before.fetched + sum_by (λ part. sum_by (λ e. e.bytes) (take (count part) part.segments)) s.parts
