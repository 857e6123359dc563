-- The registry's two datasets, by the store's numbers and as they are read.
--     name_of, schema_of which      a dataset's name and schema
--     is_foreign_in schema set      it is live with another schema
--     last_vid set      its last version
--     AreLast set s rows      these are the rows of that version, as they are read
--     IsLastDamaged set s page      a scan of it is damaged, or a key stands in it twice
--     IsUnread set old new why      why its rows aren't given
use Rattle.std.specs.Prelude.{◌≡◌, ◌≢◌, ◌⊎◌, ◌≤◌, ℕ, Bool, true, false, not, List, [], ◌∷◌, length, Option, Some, None}
use Rattle.ov_catalog.specs.Numbers.{Numbers}
use Rattle.ov_fetch.specs.Extents.{page_bytes}
use Rattle.ov_fetch.specs.Scans.{rows_at}
use Rattle.ov_host.specs.Host.{Rose, State}
use Rattle.ov_host.specs.declared.area.Area.TheVariants.{Pages}
use Rattle.ov_host.specs.declared.area.Extent.{Extent}
use Rattle.ov_model.specs.Act.{repeated_key}
use Rattle.ov_model.specs.Book.{Row}
use Rattle.ov_model.specs.Registry.{is_same_schema, stage_name, stage_schema, users_name, users_schema}
use Rattle.ov_read.specs.Agreement.{list_of}
use Rattle.ov_read.specs.Found.{IsScanned}
use Rattle.ov_read.specs.Sizes.{bytes_for}
use Rattle.ov_segment.specs.declared.numbered.Record.{Record}
use Rattle.ov_store.specs.Committing.{IfSet, Set}
use Rattle.ov_store.specs.Scanning.{IsDamagedIn, set_in}
use Rattle.ov_store.specs.declared.errors.StoreErr.{StoreErr}
use Rattle.ov_store.specs.declared.errors.StoreErr.TheVariants as why
use Rattle.ov_value.specs.Shapes.{Shape}
use Rattle.ov_registry.specs.declared.registry.Registry.{Registry}
use Rattle.ov_registry.specs.declared.registry.Registry.TheVariants as registry

abbrev pub name_of : Registry → List ℕ
name_of registry.Users = users_name
name_of registry.Stage = stage_name

abbrev pub schema_of : Registry → Shape
schema_of registry.Users = users_schema
schema_of registry.Stage = stage_schema

abbrev pub is_foreign_in : Shape → Option Set → Bool
is_foreign_in schema None = false
is_foreign_in schema (Some set) = not (is_same_schema set.schema schema)

-- a dataset of this name is live
pub record IsLive (n : Numbers Extent Extent) (name : List ℕ) : Type 0 where
  pub set : Set
  pub named : set_in n name ≡ Some set

-- and this is its last version
pub record IsLiveTo (n : Numbers Extent Extent) (name : List ℕ) (last : ℕ) : Type 0 where
  pub set : Set
  pub named : set_in n name ≡ Some set
  pub last_is : last ≡ length set.versions
  pub some : 1 ≤ last

-- ---- the last version

abbrev pub last_vid : Option Set → List ℕ
last_vid None = []
last_vid (Some set) = length set.versions ∷ []

-- the pages of the lists of these versions, and of the partitions that serve them
abbrev pub bytes_in : Option Set → List ℕ → ℕ
bytes_in None vids = 0
bytes_in (Some set) vids = bytes_for set vids

pub record IsLast (set : Set) (s : State) (rows : List Row) : Type 0 where
  pub records : List Record
  pub pick : List ℕ
  pub scanned : IsScanned (page_bytes s) set records (length set.versions) pick
  pub rows_are : rows ≡ rows_at records pick

-- those of a dataset that may not be there, where the host tells its bytes
abbrev pub AreLast : Option Set → State → List Row → Type 0
AreLast None s rows = rows ≡ []
AreLast (Some set) s rows = s.tells ≡ true → IsLast set s rows

-- a key stands twice among them, and this is the first page of the version's list
abbrev pub IsKeyTwice : Set → State → ℕ → Type 0
IsKeyTwice set s page =
    s.tells ≡ true → (rows : List Row) × IsLast set s rows × (repeated_key set.schema [] 1 rows ≢ None) × (page ≡ (list_of set (length set.versions)).page)

abbrev pub IsLastDamaged : Option Set → State → ℕ → Type 0
IsLastDamaged set s page = IsDamagedIn set (last_vid set) s page ⊎ IfSet (λ d. IsKeyTwice d s page) set

abbrev pub IsUnread : Option Set → State → State → StoreErr → Type 0
IsUnread set old new why.Host = Rose old.faults new.faults
IsUnread set old new why.Memory = Unit {0}
IsUnread set old new (why.Damaged area at) = (area ≡ Pages) × IsLastDamaged set old at
IsUnread set old new _ = ⊥
