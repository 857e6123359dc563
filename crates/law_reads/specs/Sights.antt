-- What a store reads of a dataset where its bytes stand for a World.
--     IsFound w area s found      a dataset of the World was found, and the numbers and bytes are its own
--     IsPartOf d part      the partition that these numbers are of
--     contents_of d id      the records of a partition's segments, piece after piece
--     part_rids d id      the rids of the records that it holds
--     HasNumbers s d      how many versions, rows and records there are
use Rattle.std.specs.Prelude.{◌≡◌, ℕ, List, length, map, take, Option, Some}
use Rattle.ov_host.specs.declared.area.Extent.{Extent}
use Rattle.ov_model.specs.Lists.{IsIn}
use Rattle.ov_model.specs.Plans.{pieces_of}
use Rattle.ov_model.specs.Records.{Rec, order_of, rid_in, rows_at}
use Rattle.ov_model.specs.World.{Part, Dataset, World, held}
use Rattle.ov_catalog.specs.Numbers.{PartNumbers}
use Rattle.ov_catalog.specs.Shown.{sorted_by, list_of, held_by}
use Rattle.ov_segment.specs.declared.numbered.Record.{Record}
use Rattle.ov_read.specs.Agreement.{Numbers, rows_of, records_after}
use Rattle.ov_read.specs.OfWorld.{IsSetOf}

-- it is the only one with its number, so what it holds is found by that
pub record IsPartOf (d : Dataset) (part : PartNumbers Extent) : Type 0 where
  pub is : Part
  pub one : IsIn d.parts is
  pub id : part.id ≡ is.id
  pub versions : part.versions ≡ is.versions
  pub holds : part.holds ≡ is.holds
  pub found : held_by d.parts part.id ≡ held is

-- a record as it stands in a segment, and those of a piece, by their rids
abbrev pub record_in : List Rec → Rec → Record
record_in all r = record { rid = rid_in all r; row = r.row }

abbrev pub records_in : List Rec → List Rec → List Record
records_in all piece = sorted_by (λ r. r.rid) (map (record_in all) piece)

-- of the partition with this number; none where there is no such partition
abbrev pub contents_of : Dataset → ℕ → List (List Record)
contents_of d id = map (records_in (order_of d.cvd.versions)) (pieces_of d.parts id)

abbrev pub part_rids : Dataset → ℕ → List ℕ
part_rids d id = list_of (order_of d.cvd.versions) (held_by d.parts id)

pub record IsFound (w : World) (area : List ℕ) (s : Numbers) (found : Option Dataset) : Type 0 where
  pub set : Dataset
  pub is : found ≡ Some set
  pub of_world : IsSetOf w set area s

-- the numbers are the dataset's, and count its versions, the rows of each, and the records that there were after each
pub record HasNumbers (s : Numbers) (d : Dataset) : Type 0 where
  pub number : s.number ≡ d.cvd.number
  pub name : s.name ≡ d.cvd.name
  pub schema : s.schema ≡ d.cvd.schema
  pub versions : length s.versions ≡ length d.cvd.versions
  pub rows : (vid : ℕ) → rows_of s vid ≡ length (rows_at d.cvd.versions vid)
  pub after : (vid : ℕ) → records_after s vid ≡ length (order_of (take vid d.cvd.versions))
  pub records : s.records ≡ length (order_of d.cvd.versions)
