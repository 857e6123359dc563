-- A plan's target, as it is read.
--     IsBorneOut t wanted sets      the rids of its versions' lists, and those of its kept segments, bear out its numbers
--     TargetAgrees area s t      so they do, as they are read
--     lacking agrees      the rids that the target has to be given
--     RefusesTarget e area s t      why a target isn't given
use Rattle.std.specs.Prelude.{◌≡◌, ◌⊎◌, ℕ, true, List, [], ◌∷◌, length}
use Rattle.std.specs.List.{AllZip}
use Rattle.ov_member.specs.Rids.{has, left_out}
use Rattle.ov_catalog.specs.Numbers.{TargetNumbers}
use Rattle.ov_fetch.specs.declared.errors.FetchErr.{FetchErr}
use Rattle.ov_fetch.specs.declared.errors.FetchErr.TheVariants.{Host, Memory, Damaged}
use Rattle.ov_fetch.specs.Extents.{IsList}
use Rattle.ov_fetch.specs.Rows.{HaveRids, HasNoSegment}
use Rattle.law_steps.specs.Targets.{kept_segments}
use Rattle.ov_read.specs.Agreement.{Agrees, AreTogether, Numbers, list_of}
use Rattle.ov_read.specs.Damages.{HasBadList}
use Rattle.ov_migrate.specs.Picked.{IsUnionOf}

-- There are as many rids as the target has records. No two kept segments share a rid; all of theirs are wanted, and they are as
-- many as the target says.
pub record IsBorneOut (t : TargetNumbers) (wanted : List ℕ) (sets : List (List ℕ)) : Type 0 where
  pub size : length wanted ≡ t.size
  pub kept : List ℕ
  pub together : AreTogether sets kept
  pub within : (rid : ℕ) → has kept rid ≡ true → has wanted rid ≡ true
  pub count : length kept ≡ t.kept_records

-- the lists of its versions are whole and agree, and so are the segments that it keeps
pub record IsWhole (area : List ℕ) (s : Numbers) (t : TargetNumbers) (lists sets : List (List ℕ)) : Type 0 where
  pub read : AllZip (λ vid. IsList area (list_of s vid)) t.versions lists
  pub agree : AllZip (Agrees s) t.versions lists
  pub segments : HaveRids s.schema area (kept_segments s t) sets

pub record TargetAgrees (area : List ℕ) (s : Numbers) (t : TargetNumbers) : Type 0 where
  pub lists : List (List ℕ)
  pub sets : List (List ℕ)
  pub whole : IsWhole area s t lists sets
  pub wanted : List ℕ
  pub union : IsUnionOf lists wanted
  pub borne_out : IsBorneOut t wanted sets

-- what it wants and doesn't keep
abbrev pub lacking : {area : List ℕ} {s : Numbers} {t : TargetNumbers} → TargetAgrees area s t → List ℕ
lacking agrees = left_out agrees.wanted agrees.borne_out.kept

-- ---- what refuses it

-- the first page of the list of the first of these versions, which is the least
abbrev pub first_page : Numbers → List ℕ → ℕ
first_page s [] = 0
first_page s (vid ∷ vids) = (list_of s vid).page

-- these lists and the kept segments' rids don't bear out the target's numbers
pub record IsOff (t : TargetNumbers) (lists sets : List (List ℕ)) : Type 0 where
  pub wanted : List ℕ
  pub union : IsUnionOf lists wanted
  pub off : IsBorneOut t wanted sets → ⊥

-- all of it is whole, and so the target doesn't agree
pub record TargetDisagrees (area : List ℕ) (s : Numbers) (t : TargetNumbers) (page : ℕ) : Type 0 where
  pub lists : List (List ℕ)
  pub sets : List (List ℕ)
  pub whole : IsWhole area s t lists sets
  pub disagrees : IsOff t lists sets
  pub page_is : page ≡ first_page s t.versions

abbrev pub IsTargetDamage : List ℕ → Numbers → TargetNumbers → ℕ → Type 0
IsTargetDamage area s t page =
    HasBadList area s t.versions page ⊎ HasNoSegment s.schema area (kept_segments s t) page ⊎ TargetDisagrees area s t page

-- want of memory and a fault of the host say nothing of the bytes
abbrev pub RefusesTarget : FetchErr → List ℕ → Numbers → TargetNumbers → Type 0
RefusesTarget Host area s t = Unit {0}
RefusesTarget Memory area s t = Unit {0}
RefusesTarget (Damaged page) area s t = IsTargetDamage area s t page

-- ---- a target that was read

-- by the rids of its versions' lists and of its kept segments it agrees, and these are the rids that it lacks
pub record IsLacking (t : TargetNumbers) (lists sets : List (List ℕ)) (rids : List ℕ) : Type 0 where
  pub wanted : List ℕ
  pub union : IsUnionOf lists wanted
  pub borne_out : IsBorneOut t wanted sets
  pub rids_are : left_out wanted borne_out.kept ≡ rids

-- on every host: of some segments
pub record IsSized (t : TargetNumbers) (lists : List (List ℕ)) (rids : List ℕ) : Type 0 where
  pub paired : length lists ≡ length t.versions
  pub sets : List (List ℕ)
  pub lacks : IsLacking t lists sets rids

-- these are the lists of its versions, and what it lacks
pub record IsRead (area : List ℕ) (s : Numbers) (t : TargetNumbers) (lists : List (List ℕ)) (rids : List ℕ) : Type 0 where
  pub sets : List (List ℕ)
  pub whole : IsWhole area s t lists sets
  pub lacks : IsLacking t lists sets rids
