-- Named files of the stage, and the rows of one.
--     file_rows schema name file      the rows that a file spells, or why a command that asks for them is refused
--     result_of found      what was found, as such rows or such a refusal
--     AreFit schema found      rows that were found are rows of the schema, none too long to be kept
--     Serves old new      what each call of a stage keeps to
--     Looks old new      the same of a call that changes no file
--     IsFront all bytes      all bytes of a file, or its first 67,108,865
use Rattle.std.specs.Prelude.{◌≡◌, ◌≤◌, ℕ, List, [], ◌++◌, length, Option, Some, None, Result, Ok, Err}
use Rattle.std.specs.List.{All}
use Rattle.ov_host.specs.Stage.{Staged}
use Rattle.ov_value.specs.Shapes.{Shape}
use Rattle.ov_value.specs.Spelling.{IsRow, row_spelling}
use Rattle.ov_model.specs.Book.{Row}
use Rattle.ov_model.specs.Csv.{rows_of}
use Rattle.ov_model.specs.declared.refusal.Refusal.{Refusal}
use Rattle.ov_model.specs.declared.refusal.Refusal.TheVariants.{NoFile}
use Rattle.ov_files.specs.declared.rows.FileRows.{FileRows}
use Rattle.ov_files.specs.declared.rows.FileRows.TheVariants.{Rows, Refused}

abbrev pub file_rows : Shape → List ℕ → Option (List ℕ) → Result (List Row) Refusal
file_rows schema name None = Err (NoFile name)
file_rows schema name (Some bytes) = rows_of schema bytes

abbrev pub result_of : FileRows → Result (List Row) Refusal
result_of (Rows rows) = Ok rows
result_of (Refused refusal) = Err refusal

abbrev pub AreFit : Shape → FileRows → Type 0
AreFit schema (Rows rows) = All (IsRow schema) rows × All (λ row. length (row_spelling row).bytes ≤ 65536) rows
AreFit schema (Refused refusal) = Unit {0}

-- it tells its files as before, and no count falls
pub record Serves (old new : Staged) : Type 0 where
  pub told : new.tells ≡ old.tells
  pub faults : old.faults ≤ new.faults
  pub misses : old.misses ≤ new.misses

pub record Looks (old new : Staged) : Type 0 where
  pub told : new.tells ≡ old.tells
  pub faults : old.faults ≤ new.faults
  pub misses : old.misses ≤ new.misses
  pub files : new.files ≡ old.files

-- `rest` is what was not read
pub record IsFront (all bytes : List ℕ) : Type 0 where
  pub rest : List ℕ
  pub whole : all ≡ bytes ++ rest
  pub ends : length bytes ≤ 67108864 → rest ≡ []
