-- What is damaged of what a store reads, and which page names it.
--     IsBadList area s vid      a version's list is short, is off its grammar or doesn't agree
--     HasBadList area s vids page      it is that of one of these versions, and this is its first page
--     IsDamage area s vids page      a damage of a scan of these versions, named by this page
use Rattle.std.specs.Prelude.{◌≡◌, ◌⊎◌, ℕ, true, List, [], ◌∷◌, map, None}
use Rattle.std.specs.List.{Contains}
use Rattle.ov_host.specs.declared.area.Extent.{Extent}
use Rattle.ov_member.specs.Rids.{has}
use Rattle.ov_value.specs.Shapes.{Shape}
use Rattle.ov_segment.specs.declared.numbered.Record.{Record}
use Rattle.ov_fetch.specs.declared.errors.FetchErr.{FetchErr}
use Rattle.ov_fetch.specs.declared.errors.FetchErr.TheVariants.{Host, Memory, Damaged}
use Rattle.ov_fetch.specs.Extents.{IsList, IsNoList, rids_of}
use Rattle.ov_fetch.specs.Rows.{AreSegments, HasNoSegment, record_of, joined}
use Rattle.ov_read.specs.Agreement.{Numbers, list_of, segments_of, Agrees, PartAgrees}

-- the list is whole, and its rids don't bear out the numbers of the version
pub record Disagrees (area : List ℕ) (s : Numbers) (vid : ℕ) : Type 0 where
  pub rids : List ℕ
  pub list : IsList area (list_of s vid) rids
  pub off : Agrees s vid rids → ⊥

abbrev pub IsBadList : List ℕ → Numbers → ℕ → Type 0
IsBadList area s vid = IsNoList area (list_of s vid) ⊎ Disagrees area s vid

pub record HasBadList (area : List ℕ) (s : Numbers) (vids : List ℕ) (page : ℕ) : Type 0 where
  pub vid : ℕ
  pub among : Contains vids vid
  pub bad : IsBadList area s vid
  pub page_is : page ≡ (list_of s vid).page

-- why a version's list isn't given, and those of several; want of memory and a fault of the host say nothing of the bytes
abbrev pub RefusesList : FetchErr → List ℕ → Numbers → ℕ → Type 0
RefusesList Host area s vid = Unit {0}
RefusesList Memory area s vid = Unit {0}
RefusesList (Damaged page) area s vid = (page ≡ (list_of s vid).page) × IsBadList area s vid

abbrev pub RefusesLists : FetchErr → List ℕ → Numbers → List ℕ → Type 0
RefusesLists Host area s vids = Unit {0}
RefusesLists Memory area s vids = Unit {0}
RefusesLists (Damaged page) area s vids = HasBadList area s vids page

-- ---- a scan

-- a segment of the partition of one of these versions is short or off its grammar, and this is its first page
pub record HasBadSegment (area : List ℕ) (s : Numbers) (vids : List ℕ) (page : ℕ) : Type 0 where
  pub vid : ℕ
  pub among : Contains vids vid
  pub bad : HasNoSegment s.schema area (segments_of s vid) page

-- a member of the list of one of these versions has no record in the segments of its partition, while the list and all
-- of these are whole; this is the list's first page
pub record LacksMember (area : List ℕ) (s : Numbers) (vids : List ℕ) (page : ℕ) : Type 0 where
  pub vid : ℕ
  pub among : Contains vids vid
  pub rids : List ℕ
  pub list : IsList area (list_of s vid) rids
  pub contents : List (List Record)
  pub read : AreSegments s.schema area (segments_of s vid) contents
  pub rid : ℕ
  pub member : has rids rid ≡ true
  pub lacking : record_of (joined contents) rid ≡ None
  pub page_is : page ≡ (list_of s vid).page

abbrev pub IsDamage : List ℕ → Numbers → List ℕ → ℕ → Type 0
IsDamage area s vids page = HasBadList area s vids page ⊎ HasBadSegment area s vids page ⊎ LacksMember area s vids page

abbrev pub RefusesScan : FetchErr → List ℕ → Numbers → List ℕ → Type 0
RefusesScan Host area s vids = Unit {0}
RefusesScan Memory area s vids = Unit {0}
RefusesScan (Damaged page) area s vids = IsDamage area s vids page

-- ---- a partition

-- the page that names it
abbrev pub first_page : List Extent → ℕ
first_page [] = 0
first_page (segment ∷ segments) = segment.page

-- the segments are whole, and together they don't bear out so many records of a dataset that has so many
pub record PartDisagrees (schema : Shape) (area : List ℕ) (segments : List Extent) (records last : ℕ) : Type 0 where
  pub contents : List (List Record)
  pub read : AreSegments schema area segments contents
  pub off : PartAgrees records last (map rids_of contents) → ⊥

abbrev pub RefusesPart : FetchErr → Shape → List ℕ → List Extent → ℕ → ℕ → Type 0
RefusesPart Host schema area segments records last = Unit {0}
RefusesPart Memory schema area segments records last = Unit {0}
RefusesPart (Damaged page) schema area segments records last = (page ≡ first_page segments) × PartDisagrees schema area segments records last
