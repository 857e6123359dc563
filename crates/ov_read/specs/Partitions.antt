-- The segments of partitions, as they are read.
--     IsPartRead schema area segments all      they are whole, share no rid, and these are their rids
--     AreHeld told area s vids held      these are the rids of each segment of the partitions that serve one of the versions,
--         where the bytes are told
use Rattle.std.specs.Prelude.{◌≡◌, ℕ, Bool, true, List, map}
use Rattle.std.specs.List.{AllZip}
use Rattle.ov_host.specs.declared.area.Extent.{Extent}
use Rattle.ov_value.specs.Shapes.{Shape}
use Rattle.ov_segment.specs.declared.numbered.Record.{Record}
use Rattle.ov_catalog.specs.Numbers.{PartNumbers}
use Rattle.ov_fetch.specs.Extents.{rids_of}
use Rattle.ov_fetch.specs.Rows.{AreSegments, HaveRids}
use Rattle.ov_read.specs.Agreement.{AreTogether, Numbers}
use Rattle.ov_read.specs.Sizes.{serves_one}

pub record IsPartRead (schema : Shape) (area : List ℕ) (segments : List Extent) (all : List ℕ) : Type 0 where
  pub contents : List (List Record)
  pub read : AreSegments schema area segments contents
  pub together : AreTogether (map rids_of contents) all

abbrev pub IsHeld : Bool → List ℕ → Shape → List ℕ → PartNumbers Extent → List (List ℕ) → Type 0
IsHeld told area schema vids part sets = told ≡ true → serves_one vids part ≡ true → HaveRids schema area part.segments sets

-- one item for each partition, in their order
abbrev pub AreHeld : Bool → List ℕ → Numbers → List ℕ → List (List (List ℕ)) → Type 0
AreHeld told area s vids held = AllZip (IsHeld told area s.schema vids) s.parts held
