-- Between segments and rows: the records that are wanted, and their order.
use Rattle.std.specs.Prelude.{◌≡◌, ℕ, true, List, ◌++◌, Some, slice_get}
use Rattle.std.specs.List.{filter}
use Rattle.ov_host.specs.declared.area.Extent.{Extent}
use Rattle.ov_host.specs.Host.{State}
use Rattle.ov_member.specs.Rids.{has, AreRids}
use Rattle.ov_value.specs.Shapes.{Shape}
use Rattle.ov_segment.specs.declared.numbered.Record.{Record}
use Rattle.ov_segment.specs.Segments.{IsNext, AreRecords}
use Rattle.ov_fetch.specs.declared.errors.FetchErr.{FetchErr}
use Rattle.ov_fetch.specs.declared.errors.FetchErr.TheVariants.{Host, Memory, Damaged}
use Rattle.ov_fetch.specs.Extents.{page_bytes, IsSegment, rids_of}
use Rattle.ov_fetch.specs.Rows.{is_asked, joined, AreSegments, HasNoSegment}

-- all rids that are asked for
pub record IsAskedSet (members : List (List ℕ)) (wanted : List ℕ) : Type 0 where
  pub rids : AreRids wanted
  pub members_are : (rid : ℕ) → has wanted rid ≡ is_asked members rid

-- a record that a segment may have
abbrev pub IsRecord : Shape → Record → Type 0
IsRecord schema r = IsNext schema 0 r

abbrev pub wanted_of : List ℕ → List Record → List Record
wanted_of wanted records = filter (λ r. has wanted r.rid) records

-- the wanted ones of records that a segment may have came to those before, and these are the rids of all of them; where the
-- bytes are told, the segment has these records
pub record HasKept (schema : Shape) (before : State) (segment : Extent) (wanted : List ℕ) (old new : List Record) (rids : List ℕ) : Type 0 where
  pub read : List Record
  pub are : AreRecords schema 0 read
  pub kept_are : new ≡ old ++ wanted_of wanted read
  pub rids_are : rids ≡ rids_of read
  pub told : before.tells ≡ true → IsSegment schema (page_bytes before) segment read

-- the wanted records of all the segments
pub record AreWanted (schema : Shape) (area : List ℕ) (segments : List Extent) (wanted : List ℕ) (kept : List Record) : Type 0 where
  pub contents : List (List Record)
  pub read : AreSegments schema area segments contents
  pub kept_are : kept ≡ wanted_of wanted (joined contents)

abbrev pub RefusesSegments : FetchErr → Shape → List ℕ → List Extent → Type 0
RefusesSegments Host schema area segments = Unit {0}
RefusesSegments Memory schema area segments = Unit {0}
RefusesSegments (Damaged page) schema area segments = HasNoSegment schema area segments page

-- the set at this place has a rid that is missing
pub record SharesAt (members : List (List ℕ)) (missing : List ℕ) (place : ℕ) : Type 0 where
  pub rids : List ℕ
  pub there : slice_get members place ≡ Some rids
  pub rid : ℕ
  pub member : has rids rid ≡ true
  pub lacking : has missing rid ≡ true
