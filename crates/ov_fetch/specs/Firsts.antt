-- The records of sets of rids, out of the first of some segments: as many as it takes.
--     Suffice schema area segments asks      the segments stand whole, and each rid that is asked for has a record in them
--     Lack schema area segments asks      they stand whole, and a rid that is asked for has none
--     AreFirstRows schema area segments members got      got are the records of all the sets, out of the first segments that suffice
--     IsFetchedFirst schema before after segments asks      no more was fetched than these have
--     RefusesFirstRows e schema area segments lists members      why there are none
use Rattle.std.specs.Prelude.{◌≡◌, ◌≤◌, ◌<◌, ◌⊎◌, ℕ, ◌+◌, Bool, true, not, ◌&&◌, List, length, take, Some, None, IsSome, slice_get}
use Rattle.std.specs.List.{sum_by}
use Rattle.ov_host.specs.declared.area.Extent.{Extent}
use Rattle.ov_host.specs.Host.{State}
use Rattle.ov_member.specs.Rids.{has}
use Rattle.ov_value.specs.Shapes.{Shape}
use Rattle.ov_segment.specs.declared.numbered.Record.{Record}
use Rattle.ov_fetch.specs.declared.errors.FetchErr.{FetchErr}
use Rattle.ov_fetch.specs.declared.errors.FetchErr.TheVariants.{Host, Memory, Damaged}
use Rattle.ov_fetch.specs.Extents.{page_bytes, IsNoSegment, rids_of}
use Rattle.ov_fetch.specs.Gathering.{AreWanted}
use Rattle.ov_fetch.specs.Rows.{AreRows, AreSegments, LacksRecord, is_asked, joined, record_of}

pub record Suffice (schema : Shape) (area : List ℕ) (segments : List Extent) (asks : ℕ → Bool) : Type 0 where
  pub contents : List (List Record)
  pub read : AreSegments schema area segments contents
  pub there : (rid : ℕ) → asks rid ≡ true → IsSome (record_of (joined contents) rid)

pub record Lack (schema : Shape) (area : List ℕ) (segments : List Extent) (asks : ℕ → Bool) : Type 0 where
  pub contents : List (List Record)
  pub read : AreSegments schema area segments contents
  pub rid : ℕ
  pub asked : asks rid ≡ true
  pub lacking : record_of (joined contents) rid ≡ None

-- the first so many segments have a record of each rid of the sets, and no fewer do
pub record AreFirstRows (schema : Shape) (area : List ℕ) (segments : List Extent) (members : List (List ℕ)) (got : List Record) : Type 0 where
  pub count : ℕ
  pub within : count ≤ length segments
  pub rows : AreRows schema area (take count segments) members got
  pub fewest : (fewer : ℕ) → fewer < count → Lack schema area (take fewer segments) (is_asked members)

-- whatever number of first segments suffices, no more bytes were fetched than these have
abbrev pub IsFetchedFirst : Shape → State → State → List Extent → (ℕ → Bool) → Type 0
IsFetchedFirst schema before after segments asks =
    before.tells ≡ true → (count : ℕ) → Suffice schema (page_bytes before) (take count segments) asks
    → after.fetched ≤ before.fetched + sum_by (λ e. e.bytes) (take count segments)

-- the segments before this one lack a record, and it is short or off its grammar; this is its first page
pub record IsOffNext (schema : Shape) (area : List ℕ) (segments : List Extent) (asks : ℕ → Bool) (page : ℕ) : Type 0 where
  pub count : ℕ
  pub before : Lack schema area (take count segments) asks
  pub segment : Extent
  pub next : slice_get segments count ≡ Some segment
  pub off : IsNoSegment schema area segment
  pub page_is : page ≡ segment.page

-- want of memory and a fault of the host say nothing of the bytes
abbrev pub RefusesFirstRows : FetchErr → Shape → List ℕ → List Extent → List Extent → List (List ℕ) → Type 0
RefusesFirstRows Host schema area segments lists members = Unit {0}
RefusesFirstRows Memory schema area segments lists members = Unit {0}
RefusesFirstRows (Damaged page) schema area segments lists members =
    IsOffNext schema area segments (is_asked members) page ⊎ LacksRecord schema area segments lists members page

-- ---- between segments and rows

-- The wanted records of the first segments that suffice, and the wanted rids that have none. Where there are such, all segments
-- were read.
pub record AreFirstWanted (schema : Shape) (area : List ℕ) (segments : List Extent) (wanted : List ℕ) (kept : List Record) (left : List ℕ) : Type 0 where
  pub count : ℕ
  pub within : count ≤ length segments
  pub gathered : AreWanted schema area (take count segments) wanted kept
  pub left_is : (rid : ℕ) → has left rid ≡ (has wanted rid && not (has (rids_of kept) rid))
  pub fewest : (fewer : ℕ) → fewer < count → Lack schema area (take fewer segments) (has wanted)
  pub ended : 0 < length left → count ≡ length segments

abbrev pub RefusesFirstWanted : FetchErr → Shape → List ℕ → List Extent → List ℕ → Type 0
RefusesFirstWanted Host schema area segments wanted = Unit {0}
RefusesFirstWanted Memory schema area segments wanted = Unit {0}
RefusesFirstWanted (Damaged page) schema area segments wanted = IsOffNext schema area segments (has wanted) page
