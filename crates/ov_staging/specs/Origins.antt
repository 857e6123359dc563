-- Where a staged table came from.
--     staged_in n row      what its row names: a live dataset that is none of the store's own, under its name and number, and versions
--     IsOriginOf n owner table row from      what is known of a table of this row, which may not be there
--     IsOriginBy n owner table s from      and by the last rows of the staged tables, as they are read
--     IsOriginIn w owner table from      what a `commit -t` comes to in a World
use Rattle.std.specs.Prelude.{◌≡◌, ◌≢◌, ◌⊎◌, ℕ, if◌then◌else◌, List, [], Option, Some, None}
use Rattle.std.specs.Option.{option_and_then}
use Rattle.ov_catalog.specs.Numbers.{Numbers}
use Rattle.ov_host.specs.Host.{State}
use Rattle.ov_host.specs.declared.area.Extent.{Extent}
use Rattle.ov_model.specs.Act.{Session, commit_deed, refuses}
use Rattle.ov_model.specs.Book.{Row}
use Rattle.ov_model.specs.Deed.{commit_staged_deed, file_of_table, table_named}
use Rattle.ov_model.specs.Registry.{as_text, both, is_number, stage_name, stage_schema, table_in, vids_staged}
use Rattle.ov_model.specs.Users.{is_reserved}
use Rattle.ov_model.specs.World.{World, set_named}
use Rattle.ov_model.specs.declared.refusal.Refusal.{Refusal}
use Rattle.ov_model.specs.declared.refusal.Refusal.TheVariants as no
use Rattle.ov_registry.specs.Last.{AreLast}
use Rattle.ov_store.specs.Committing.{Set}
use Rattle.ov_store.specs.Scanning.{set_in}
use Rattle.ov_value.specs.declared.value.Value.{Value}
use Rattle.ov_value.specs.Rows.{value_at}
use Rattle.ov_staging.specs.Reading.{foreign_off}
use Rattle.ov_staging.specs.declared.origins.Origin.{Origin}
use Rattle.ov_staging.specs.declared.origins.Origin.TheVariants as origin

-- ---- by the numbers

abbrev pub made_in : Value → Set → Option Set
made_in made set = if is_number made set.number then Some set else None

abbrev pub unreserved_in : Numbers Extent Extent → List ℕ → Option Set
unreserved_in n name = if is_reserved name then None else set_in n name

abbrev pub set_staged_in : Numbers Extent Extent → Row → Option Set
set_staged_in n row = option_and_then (made_in (value_at row 3)) (option_and_then (unreserved_in n) (as_text (value_at row 2)))

abbrev pub staged_in : Numbers Extent Extent → Row → Option (Set × List ℕ)
staged_in n row = both (set_staged_in n row) (vids_staged row)

abbrev pub IsOriginOf : Numbers Extent Extent → List ℕ → List ℕ → Option Row → Origin → Type 0
IsOriginOf n owner table row (origin.Refused refusal) =
    (option_and_then (staged_in n) row ≡ None) × (refusal ≡ no.NoTable (table_named owner table))
IsOriginOf n owner table row (origin.From cvd vids) =
    (set : Set) × (option_and_then (staged_in n) row ≡ Some (set, vids)) × (cvd ≡ set.name)

-- 76, or by the rows
abbrev pub IsOriginBy : Numbers Extent Extent → List ℕ → List ℕ → State → Origin → Type 0
IsOriginBy n owner table s from =
    ((refusal : Refusal) × (foreign_off stage_schema (set_in n stage_name) ≡ Some refusal) × (from ≡ origin.Refused refusal))
    ⊎ ((foreign_off stage_schema (set_in n stage_name) ≡ None)
    × (last : List Row) × AreLast (set_in n stage_name) s last × IsOriginOf n owner table (table_in last owner table) from)

-- at least one version is listed
abbrev pub HasVersions : Origin → Type 0
HasVersions (origin.Refused refusal) = Unit {0}
HasVersions (origin.From cvd vids) = vids ≢ []

-- ---- in a World

-- the command is refused; or it commits the table's file to the dataset, on these versions
abbrev pub IsOriginIn : World → List ℕ → List ℕ → Origin → Type 0
IsOriginIn w owner table (origin.Refused refusal) =
    (s : Session) (message : List ℕ) → commit_staged_deed w s owner table message (set_named w stage_name) ≡ refuses s refusal
IsOriginIn w owner table (origin.From cvd vids) =
    (s : Session) (message : List ℕ) → commit_staged_deed w s owner table message (set_named w stage_name)
    ≡ commit_deed w s cvd vids message [] (file_of_table owner table) (set_named w cvd)
