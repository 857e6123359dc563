-- The rows of versions in a scan, and the records that they are.
--     IsPicked schema records rids pick found      at these positions stand these records, which have the rids, each once, in
--         key order
--     IsScanned area s records vid pick      so they are those of the version, as they are read, and its list agrees
--     IsListed s records vid pick      so they have the rids of a list that agrees, each once
use Rattle.std.specs.Prelude.{◌≡◌, ℕ, List, length, map, Some, slice_get}
use Rattle.std.specs.List.{All}
use Rattle.std.specs.List.Sorted.{IsPermutation}
use Rattle.ov_host.specs.declared.area.Extent.{Extent}
use Rattle.ov_value.specs.Shapes.{Shape}
use Rattle.ov_segment.specs.declared.numbered.Record.{Record}
use Rattle.ov_member.specs.Rids.{AreRids}
use Rattle.ov_fetch.specs.Extents.{IsList, rids_of}
use Rattle.ov_fetch.specs.Rows.{AreSegments, joined, record_of}
use Rattle.ov_fetch.specs.Scans.{InKeyOrder, rows_of as rows_in}
use Rattle.ov_read.specs.Agreement.{Agrees, Numbers, list_of, rows_of, segments_of}

pub record IsPicked (schema : Shape) (records : List Record) (rids pick : List ℕ) (found : List Record) : Type 0 where
  pub at : map (slice_get records) pick ≡ map Some found
  pub same : IsPermutation rids (rids_of found)
  pub ordered : InKeyOrder schema (rows_in found)

-- whole segments, in which each of these records is the first one with its rid
pub record AreFirst (schema : Shape) (area : List ℕ) (segments : List Extent) (found : List Record) : Type 0 where
  pub contents : List (List Record)
  pub read : AreSegments schema area segments contents
  pub first : All (λ r. record_of (joined contents) r.rid ≡ Some r) found

pub record IsScanned (area : List ℕ) (s : Numbers) (records : List Record) (vid : ℕ) (pick : List ℕ) : Type 0 where
  pub rids : List ℕ
  pub list : IsList area (list_of s vid) rids
  pub agrees : Agrees s vid rids
  pub found : List Record
  pub picked : IsPicked s.schema records rids pick found
  pub first : AreFirst s.schema area (segments_of s vid) found

-- on every host: the records have the rids of a list that agrees
pub record IsListed (s : Numbers) (records : List Record) (vid : ℕ) (pick : List ℕ) : Type 0 where
  pub rids : List ℕ
  pub set : AreRids rids
  pub agrees : Agrees s vid rids
  pub found : List Record
  pub picked : IsPicked s.schema records rids pick found

-- as many as the version has rows
abbrev pub HasRows : Numbers → ℕ → List ℕ → Type 0
HasRows s vid pick = length pick ≡ rows_of s vid
