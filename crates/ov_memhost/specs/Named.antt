-- A list of files with their names, as a map.
use Rattle.std.specs.Prelude.{◌≡◌, ◌≢◌, ◌<◌, ℕ, List, [], map, length, slice_index_or, String, string_bytes, Vec}
use Rattle.std.specs.declared.alloc.Global.{Global}
use Rattle.std.specs.FinMap.{from_entries}
use Rattle.ov_host.specs.Stage.{Files}

abbrev pub entries_of : List (String Global × Vec ℕ Global) → List (List ℕ × List ℕ)
entries_of files = map (λ f. (string_bytes f.0, f.1.items)) files

-- the map of a list of files; of equal names the first counts
abbrev pub files_of : List (String Global × Vec ℕ Global) → Files
files_of files = from_entries (entries_of files)

abbrev pub names_of : List (List ℕ × List ℕ) → List (List ℕ)
names_of es = map (λ e. e.0) es

-- the bytes of the file at a place, and none where there is no such file
abbrev pub bytes_at : List (List ℕ × List ℕ) → ℕ → List ℕ
bytes_at es place = slice_index_or (map (λ e. e.1) es) place []

-- the first file of this name stands at this place
pub record IsFirst (name : List ℕ) (es : List (List ℕ × List ℕ)) (place : ℕ) : Type 0 where
  pub there : place < length es
  pub named : slice_index_or (names_of es) place [] ≡ name
  pub first : (p : ℕ) → p < place → slice_index_or (names_of es) p [] ≢ name

-- no file has this name
abbrev pub IsMissing : List ℕ → List (List ℕ × List ℕ) → Type 0
IsMissing name es = (p : ℕ) → p < length es → slice_index_or (names_of es) p [] ≢ name
