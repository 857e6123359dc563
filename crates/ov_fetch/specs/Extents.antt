-- Extents of the page area as they read, and what stands in them.
--     IsList area list rids      the list of these rids stands whole in the extent
--     IsSegment schema area segment records      a segment of these records does
--     IsNoList, IsNoSegment      it is short, or its bytes spell none
use Rattle.std.specs.Prelude.{◌≡◌, ◌≤◌, ◌<◌, ◌⊎◌, ℕ, ◌*◌, ◌-◌, ◌^◌, min, true, List, length, take, drop, map}
use Rattle.ov_host.specs.declared.area.Extent.{Extent}
use Rattle.ov_host.specs.declared.area.Area.TheVariants.{Pages}
use Rattle.ov_host.specs.Host.{State, bytes_of}
use Rattle.ov_member.specs.Lists.{Spells}
use Rattle.ov_value.specs.Shapes.{Shape}
use Rattle.ov_segment.specs.declared.numbered.Record.{Record}
use Rattle.ov_segment.specs.Segments.{AreRecords, segment_spelling}
use Rattle.ov_fetch.specs.declared.errors.FetchErr.{FetchErr}
use Rattle.ov_fetch.specs.declared.errors.FetchErr.TheVariants.{Host, Memory, Damaged}

-- the rids of records
abbrev pub rids_of : List Record → List ℕ
rids_of records = map (λ r. r.rid) records

-- what looking does to a host: nothing changes but its counts, and neither falls (that of fetched bytes stays at 2^64 - 1)
pub record Looked (old new : State) : Type 0 where
  pub told : new.tells ≡ old.tells
  pub kept : new.keeps ≡ old.keeps
  pub tape : old.tells ≡ true → new.tape ≡ old.tape
  pub faults : old.faults ≤ new.faults
  pub fetched : min old.fetched (2 ^ 64 - 1) ≤ new.fetched

-- the bytes of the page area
abbrev pub page_bytes : State → List ℕ
page_bytes s = bytes_of Pages s

-- the bytes of the area from the extent's place on: as many as the extent has, or fewer where the area ends before
abbrev pub extent_bytes : List ℕ → Extent → List ℕ
extent_bytes area e = take e.bytes (drop (4096 * e.page) area)

abbrev pub IsWhole : List ℕ → Extent → Type 0
IsWhole area e = length (extent_bytes area e) ≡ e.bytes

abbrev pub IsShort : List ℕ → Extent → Type 0
IsShort area e = length (extent_bytes area e) < e.bytes

pub record IsList (area : List ℕ) (list : Extent) (rids : List ℕ) : Type 0 where
  pub whole : IsWhole area list
  pub spells : Spells (extent_bytes area list) rids

abbrev pub IsNoList : List ℕ → Extent → Type 0
IsNoList area list = IsShort area list ⊎ ((rids : List ℕ) → Spells (extent_bytes area list) rids → ⊥)

pub record IsSegment (schema : Shape) (area : List ℕ) (segment : Extent) (records : List Record) : Type 0 where
  pub whole : IsWhole area segment
  pub are : AreRecords schema 0 records
  pub spelled : extent_bytes area segment ≡ segment_spelling records

abbrev pub IsNoSegment : Shape → List ℕ → Extent → Type 0
IsNoSegment schema area segment =
    IsShort area segment
    ⊎ ((records : List Record) → AreRecords schema 0 records → extent_bytes area segment ≡ segment_spelling records → ⊥)

-- a segment stands whole in the extent, and its records have these rids
pub record HasRids (schema : Shape) (area : List ℕ) (segment : Extent) (rids : List ℕ) : Type 0 where
  pub records : List Record
  pub stands : IsSegment schema area segment records
  pub rids_are : rids ≡ rids_of records

-- why a list isn't read; want of memory and a fault of the host say nothing of the bytes
abbrev pub RefusesList : FetchErr → List ℕ → Extent → Type 0
RefusesList Host area list = Unit {0}
RefusesList Memory area list = Unit {0}
RefusesList (Damaged page) area list = (page ≡ list.page) × IsNoList area list

-- why a segment isn't
abbrev pub RefusesSegment : FetchErr → Shape → List ℕ → Extent → Type 0
RefusesSegment Host schema area segment = Unit {0}
RefusesSegment Memory schema area segment = Unit {0}
RefusesSegment (Damaged page) schema area segment = (page ≡ segment.page) × IsNoSegment schema area segment

-- why the bytes of an extent aren't read
abbrev pub RefusesExtent : FetchErr → List ℕ → Extent → Type 0
RefusesExtent Host area e = Unit {0}
RefusesExtent Memory area e = Unit {0}
RefusesExtent (Damaged page) area e = (page ≡ e.page) × IsShort area e
