-- The records of partitions.
--     IsAdded schema s segments sets old new      those of one partition came behind the others
--     AreGathered area s versions lists rids records      those of all of them
use Rattle.std.specs.Prelude.{◌≡◌, ℕ, true, cond, List, [], ◌∷◌, ◌++◌}
use Rattle.std.specs.List.{All, sum_by}
use Rattle.ov_host.specs.declared.area.Extent.{Extent}
use Rattle.ov_host.specs.Host.{State}
use Rattle.ov_member.specs.Rids.{has}
use Rattle.ov_value.specs.Shapes.{Shape}
use Rattle.ov_segment.specs.declared.numbered.Record.{Record}
use Rattle.ov_segment.specs.Segments.{AreRecords}
use Rattle.ov_model.specs.Placed.{times}
use Rattle.ov_fetch.specs.Extents.{page_bytes, rids_of}
use Rattle.ov_fetch.specs.Firsts.{AreFirstRows}
use Rattle.ov_read.specs.Agreement.{Numbers}
use Rattle.ov_copies.specs.Copies.{IsFrom}

-- where nothing is asked for, the segments aren't looked at
abbrev pub AreFor : Shape → List ℕ → List Extent → List (List ℕ) → List Record → Type 0
AreFor schema area segments [] got = got ≡ []
AreFor schema area segments (set ∷ sets) got = AreFirstRows schema area segments (set ∷ sets) got

-- nor are they fetched
abbrev pub bytes_if : List (List ℕ) → List Extent → ℕ
bytes_if [] segments = 0
bytes_if (set ∷ sets) segments = sum_by (λ e. e.bytes) segments

pub record IsAdded (schema : Shape) (s : State) (segments : List Extent) (sets : List (List ℕ)) (old new : List Record) : Type 0 where
  pub more : List Record
  pub new_is : new ≡ old ++ more
  pub are : AreRecords schema 0 more
  pub told : s.tells ≡ true → AreFor schema (page_bytes s) segments sets more

-- each rid has one record, and no other has one
pub record AreGathered (area : List ℕ) (s : Numbers) (versions : List ℕ) (lists : List (List ℕ)) (rids : List ℕ) (records : List Record) : Type 0 where
  pub once : (rid : ℕ) → times (rids_of records) rid ≡ cond (has rids rid) 1 0
  pub each : All (IsFrom area s versions lists) records
