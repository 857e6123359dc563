-- What is given of a checkout, and a file while it is written in pieces.
--     Given      the text of a file, and how many rows it has
--     behind stage text      the bytes of the file that is being written, and behind them those that were not passed on yet
--     KeepsOpen result old new      what adding to it keeps to
use Rattle.std.specs.Prelude.{◌≡◌, ◌++◌, ℕ, true, List, Option, Some, None, Result, Ok, Err}
use Rattle.ov_host.specs.Host.{Rose}
use Rattle.ov_host.specs.Stage.{OthersStay, Staged}
use Rattle.ov_files.specs.Files.{Serves}
use Rattle.ov_files.specs.declared.errors.FileErr.{FileErr}
use Rattle.ov_files.specs.declared.errors.FileErr.TheVariants.{Stage, Memory}

pub record Given : Type 0 where
  pub text : List ℕ
  pub rows : ℕ

abbrev pub behind : Staged → Option (List ℕ) → Option (List ℕ)
behind stage None = None
behind stage (Some text) = Some (stage.written ++ text)

-- the file is still open, and where the stage tells its files they and the name are as they were; after a fault of the stage all
-- files but the open one stay
abbrev pub IsOpenAs : Staged → Staged → Type 0
IsOpenAs old new = (new.writing ≡ true) × (old.tells ≡ true → (new.files ≡ old.files) × (new.name ≡ old.name))

abbrev pub EndsOpen : Result (Unit {0}) FileErr → Staged → Staged → Type 0
EndsOpen (Ok done) old new = IsOpenAs old new
EndsOpen (Err Memory) old new = IsOpenAs old new
EndsOpen (Err Stage) old new = Rose old.faults new.faults × (old.tells ≡ true → OthersStay old.name old new)

pub record KeepsOpen (result : Result (Unit {0}) FileErr) (old new : Staged) : Type 0 where
  pub serves : Serves old new
  pub ends : EndsOpen result old new
