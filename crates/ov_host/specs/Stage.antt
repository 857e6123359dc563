-- What contracts see of a stage of named files.
use Rattle.std.specs.Prelude.{◌≡◌, ◌≢◌, ◌≤◌, ℕ, Bool, true, false, List, [], ◌++◌, Some, None, Result, Ok, Err}
use Rattle.std.specs.Ordering.{nat_cmp}
use Rattle.std.specs.Cmp.Lexicographic.{slice_cmp}
use Rattle.std.specs.FinMap.{FinMap, get, insert, empty}
use Rattle.ov_host.specs.declared.area.Found.{Found}
use Rattle.ov_host.specs.declared.area.Found.TheVariants.{Yes, Missing}
use Rattle.ov_host.specs.declared.area.Failed.{Failed}
use Rattle.ov_host.specs.Host.{Rose}

-- a map from file names to bytes
abbrev pub Files : Type 0
Files = FinMap (slice_cmp nat_cmp) (List ℕ)

-- A stage: whether it tells its files, the files, whether a file was found to read and what is left of it, whether a file
-- is being written, its name and its bytes so far, how often the stage failed, and how often a name was missing.
-- Whether a file is read or written is told by every stage.
pub record Staged : Type 0 where
  pub tells : Bool
  pub files : Files
  pub reading : Bool
  pub left : List ℕ
  pub writing : Bool
  pub name : List ℕ
  pub written : List ℕ
  pub faults : ℕ
  pub misses : ℕ

-- a stage that tells no files
abbrev pub silent_stage : Bool → Bool → ℕ → ℕ → Staged
silent_stage reading writing faults misses =
    record {
      tells = false;
      files = empty;
      reading = reading;
      left = [];
      writing = writing;
      name = [];
      written = [];
      faults = faults;
      misses = misses;
    }

-- what every call keeps to: it fails only where the count of faults rose
pub record Attends (ok : Bool) (old new : Staged) : Type 0 where
  pub told : new.tells ≡ old.tells
  pub faults : old.faults ≤ new.faults
  pub misses : old.misses ≤ new.misses
  pub cause : ok ≡ false → Rose old.faults new.faults

-- the file that is being written stays as it is
pub record KeepsWriting (old new : Staged) : Type 0 where
  pub writing : new.writing ≡ old.writing
  pub name : new.name ≡ old.name
  pub written : new.written ≡ old.written

-- all files but the one with this name stay
abbrev pub OthersStay : List ℕ → Staged → Staged → Type 0
OthersStay name old new = (other : List ℕ) → other ≢ name → get new.files other ≡ get old.files other

abbrev pub was_found : Result Found Failed → Bool
was_found (Ok Yes) = true
was_found (Ok Missing) = false
was_found (Err e) = false

-- What `find` answers. Yes: the file is there, and all of it is left to read. Missing: the count of misses rose, and
-- where the files are told, there is none with this name.
abbrev pub Finds : List ℕ → Result Found Failed → Staged → Staged → Type 0
Finds name (Ok Yes) old new = old.tells ≡ true → get old.files name ≡ Some new.left
Finds name (Ok Missing) old new = Rose old.misses new.misses × (old.tells ≡ true → get old.files name ≡ None)
Finds name (Err e) old new = Unit {0}

-- a new file was started under this name
pub record Starts (wanted : List ℕ) (old new : Staged) : Type 0 where
  pub files : new.files ≡ old.files
  pub name : new.name ≡ wanted
  pub written : new.written ≡ []

-- bytes were appended to the file that is being written
pub record Appends (bytes : List ℕ) (old new : Staged) : Type 0 where
  pub files : new.files ≡ old.files
  pub name : new.name ≡ old.name
  pub written : new.written ≡ old.written ++ bytes

-- the file that was being written is in the map, under its name
abbrev pub Finishes : Staged → Staged → Type 0
Finishes old new = new.files ≡ insert old.files old.name old.written
