-- The records of a commit's parents, as they are read.
--     IsCounted s      the dataset has as many records as it had after any of its versions, or more
--     IsParent area s vid found      a scan of the version finds these records
--     RefusesParents e area s vids      why the records of these versions aren't given
--     with_added added parents      the records with columns more, which are NULL in each row
use Rattle.std.specs.Prelude.{◌≡◌, ◌⊎◌, ◌≤◌, ℕ, List, [], ◌∷◌, Some, length, map, slice_index_or}
use Rattle.std.specs.List.{AllZip}
use Rattle.ov_segment.specs.Tables.{longer}
use Rattle.ov_segment.specs.declared.numbered.Record.{Record}
use Rattle.ov_value.specs.declared.column.Column.{Column}
use Rattle.ov_fetch.specs.declared.errors.FetchErr.{FetchErr}
use Rattle.ov_fetch.specs.declared.errors.FetchErr.TheVariants.{Host, Memory, Damaged}
use Rattle.ov_records.specs.Records.{lists_of}
use Rattle.law_commits.specs.Differing.{IsFirstDisagreeing}
use Rattle.ov_read.specs.Agreement.{Numbers, list_of, records_after}
use Rattle.ov_read.specs.Damages.{IsDamage}
use Rattle.ov_read.specs.Found.{IsScanned}

abbrev pub IsCounted : Numbers → Type 0
IsCounted s = (vid : ℕ) → records_after s vid ≤ s.records

pub record IsParent (area : List ℕ) (s : Numbers) (vid : ℕ) (found : List Record) : Type 0 where
  pub records : List Record
  pub pick : List ℕ
  pub scanned : IsScanned area s records vid pick
  pub found_is : found ≡ scanned.found

-- the versions' records are read, and some rid has different rows among them; this is the first page of the list of the
-- first version that has a rid with another row than an earlier one has it with
pub record AreDiffering (area : List ℕ) (s : Numbers) (vids : List ℕ) (page : ℕ) : Type 0 where
  pub parents : List (List Record)
  pub read : AllZip (IsParent area s) vids parents
  pub place : ℕ
  pub first : IsFirstDisagreeing (lists_of parents) (Some place)
  pub page_is : page ≡ (list_of s (slice_index_or vids place 0)).page

abbrev pub RefusesParents : FetchErr → List ℕ → Numbers → List ℕ → Type 0
RefusesParents Host area s vids = Unit {0}
RefusesParents Memory area s vids = Unit {0}
RefusesParents (Damaged page) area s vids = IsDamage area s vids page ⊎ AreDiffering area s vids page

abbrev pub with_added : List Column → List (List Record) → List (List Record)
with_added [] parents = parents
with_added (column ∷ added) parents = map (map (longer (length (column ∷ added)))) parents
