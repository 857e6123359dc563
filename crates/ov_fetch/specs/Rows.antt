-- The records of sets of rids out of segments.
--     record_of records rid      the first of the records with this rid
--     is_asked members rid      whether one of the sets has the rid
--     HaveRids schema area segments sets      the segments stand whole, and these are the rids of each
--     AreRows schema area segments members got      got are the records of all the sets, out of these segments
--     IsDamage schema area segments lists members page      why there are none
use Rattle.std.specs.Prelude.{◌≡◌, ◌⊎◌, ℕ, Bool, true, false, ◌==◌, List, [], ◌∷◌, Option, Some, None, IsSome, slice_get, map}
use Rattle.std.specs.List.{list_any, find, flat_map, Contains}
use Rattle.ov_host.specs.declared.area.Extent.{Extent}
use Rattle.ov_member.specs.Rids.{has}
use Rattle.ov_value.specs.Shapes.{Shape}
use Rattle.ov_segment.specs.declared.numbered.Record.{Record}
use Rattle.ov_fetch.specs.declared.errors.FetchErr.{FetchErr}
use Rattle.ov_fetch.specs.declared.errors.FetchErr.TheVariants.{Host, Memory, Damaged}
use Rattle.ov_fetch.specs.Extents.{IsSegment, IsNoSegment, rids_of}

abbrev pub record_of : List Record → ℕ → Option Record
record_of records rid = find (λ r. r.rid == rid) records

abbrev pub is_asked : List (List ℕ) → ℕ → Bool
is_asked members rid = list_any (λ rids. has rids rid) members

-- the records of segments, one segment after the other
abbrev pub joined : List (List Record) → List Record
joined contents = flat_map (λ records. records) contents

-- each segment stands whole and has these records
abbrev pub AreSegments : Shape → List ℕ → List Extent → List (List Record) → Type 0
AreSegments schema area [] [] = Unit {0}
AreSegments schema area (segment ∷ segments) (records ∷ contents) =
    IsSegment schema area segment records × AreSegments schema area segments contents
AreSegments schema area _ _ = ⊥

-- the segments stand whole, and these are the rids of each
pub record HaveRids (schema : Shape) (area : List ℕ) (segments : List Extent) (sets : List (List ℕ)) : Type 0 where
  pub contents : List (List Record)
  pub read : AreSegments schema area segments contents
  pub sets_are : sets ≡ map rids_of contents

-- Of all records these are those of the sets: each rid of the sets has its first record among all, which is there, and
-- no other rid has one.
pub record AreAsked (all : List Record) (members : List (List ℕ)) (got : List Record) : Type 0 where
  pub asked : (rid : ℕ) → is_asked members rid ≡ true → record_of got rid ≡ record_of all rid
  pub there : (rid : ℕ) → is_asked members rid ≡ true → IsSome (record_of all rid)
  pub others : (rid : ℕ) → is_asked members rid ≡ false → record_of got rid ≡ None

pub record AreRows (schema : Shape) (area : List ℕ) (segments : List Extent) (members : List (List ℕ)) (got : List Record) : Type 0 where
  pub contents : List (List Record)
  pub read : AreSegments schema area segments contents
  pub rows : AreAsked (joined contents) members got

-- one of the segments is short or off its grammar, and this is its first page
pub record HasNoSegment (schema : Shape) (area : List ℕ) (segments : List Extent) (page : ℕ) : Type 0 where
  pub segment : Extent
  pub among : Contains segments segment
  pub off : IsNoSegment schema area segment
  pub page_is : page ≡ segment.page

-- the segments are whole, and a rid of the set of the list with this first page has no record in them
pub record LacksRecord (schema : Shape) (area : List ℕ) (segments lists : List Extent) (members : List (List ℕ)) (page : ℕ) : Type 0 where
  pub contents : List (List Record)
  pub read : AreSegments schema area segments contents
  pub place : ℕ
  pub list : Extent
  pub rids : List ℕ
  pub list_there : slice_get lists place ≡ Some list
  pub rids_there : slice_get members place ≡ Some rids
  pub rid : ℕ
  pub member : has rids rid ≡ true
  pub lacking : record_of (joined contents) rid ≡ None
  pub page_is : page ≡ list.page

abbrev pub IsDamage : Shape → List ℕ → List Extent → List Extent → List (List ℕ) → ℕ → Type 0
IsDamage schema area segments lists members page =
    HasNoSegment schema area segments page ⊎ LacksRecord schema area segments lists members page

-- why no records are given; want of memory and a fault of the host say nothing of the bytes
abbrev pub RefusesRows : FetchErr → Shape → List ℕ → List Extent → List Extent → List (List ℕ) → Type 0
RefusesRows Host schema area segments lists members = Unit {0}
RefusesRows Memory schema area segments lists members = Unit {0}
RefusesRows (Damaged page) schema area segments lists members = IsDamage schema area segments lists members page
