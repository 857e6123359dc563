-- What contracts see of a stage in memory.
use Rattle.std.specs.Prelude.{◌≡◌, ℕ, true, false, List, [], drop, Option, Some, None, is_some, string_bytes, String, Vec, Result, Ok, Err}
use Rattle.std.specs.declared.alloc.Global.{Global}
use Rattle.ov_host.specs.declared.area.Found.{Found}
use Rattle.ov_host.specs.declared.area.Found.TheVariants.{Yes, Missing}
use Rattle.ov_host.specs.declared.area.Failed.{Failed}
use Rattle.ov_host.specs.Stage.{Files, Staged}
use Rattle.ov_memhost.specs.declared.stage.MemStage.{MemStage}
use Rattle.ov_memhost.specs.declared.stage.Reading.{Reading}
use Rattle.ov_memhost.specs.declared.stage.Draft.{Draft}
use Rattle.ov_memhost.specs.Counts.{next}
use Rattle.ov_memhost.specs.Named.{entries_of, files_of, bytes_at}

-- what is left of the file that was found last
abbrev pub left_in : List (String Global × Vec ℕ Global) → Option Reading → List ℕ
left_in files None = []
left_in files (Some r) = drop r.read (bytes_at (entries_of files) r.place)

-- the name and the bytes so far of the file that is written
abbrev pub name_in : Option Draft → List ℕ
name_in None = []
name_in (Some d) = string_bytes d.name

abbrev pub written_in : Option Draft → List ℕ
written_in None = []
written_in (Some d) = d.bytes.items

-- it tells its files
abbrev pub staged_of : MemStage → Staged
staged_of m =
    record {
      tells = true;
      files = files_of m.files.items;
      reading = is_some m.reading;
      left = left_in m.files.items m.reading;
      writing = is_some m.writing;
      name = name_in m.writing;
      written = written_in m.writing;
      faults = m.counts.faults;
      misses = m.misses;
    }

-- a new stage of these files
abbrev pub new_staged : Files → Staged
new_staged files =
    record {
      tells = true;
      files = files;
      reading = false;
      left = [];
      writing = false;
      name = [];
      written = [];
      faults = 0;
      misses = 0;
    }

-- the count of misses after a `find`
abbrev pub missed : Result Found Failed → ℕ → ℕ
missed (Ok Yes) n = n
missed (Ok Missing) n = next n
missed (Err e) n = n

-- no file changed, and no name was missing
pub record FilesStay (old new : Staged) : Type 0 where
  pub files : new.files ≡ old.files
  pub misses : new.misses ≡ old.misses

-- nothing changed but the count of faults
abbrev pub AllStays : Staged → Staged → Type 0
AllStays old new = new ≡ record old { faults = new.faults }
