-- Why a call isn't done, where the store is at a World.
--     begin_refusal w name schema rows      why the World refuses a dataset of these rows
--     version_refusal w d wish      why it refuses a version
--     parents_refusal w name vids      why it refuses a version of these parents, whatever its rows
--     IsRefusedAs name off why      by what the World refuses; for want of room only where it refuses nothing
--     IsLack entry past m w why      and only where room may be wanting
use Rattle.std.specs.Prelude.{◌≡◌, ◌++◌, ℕ, false, List, [], ◌∷◌, Option, Some, None}
use Rattle.std.specs.Option.{option_or}
use Rattle.ov_value.specs.Shapes.{Shape}
use Rattle.ov_model.specs.Act.{commit_refusal, init_refusal, records_refusal, rows_refusal}
use Rattle.ov_model.specs.Book.{Row}
use Rattle.ov_model.specs.Moves.{Move, wide}
use Rattle.ov_model.specs.World.{Dataset, World, set_named}
use Rattle.ov_model.specs.declared.refusal.Refusal.{Refusal}
use Rattle.ov_model.specs.declared.refusal.Refusal.TheVariants as no
use Rattle.law_room.specs.Room.{Entry, Made, LacksRun, LacksRecord}
use Rattle.ov_store.specs.declared.errors.StoreErr.{StoreErr}
use Rattle.ov_store.specs.declared.errors.StoreErr.TheVariants as why
use Rattle.ov_store.specs.Committing.{Wish, adds, fresh_in_world}
use Rattle.ov_store.specs.Refusals.{refusal_of}

abbrev pub begin_refusal : World → List ℕ → Shape → List Row → Option Refusal
begin_refusal w name schema rows = option_or (init_refusal w name) (rows_refusal w schema false rows)

-- of its rows, and then of its records
abbrev pub content_refusal : World → Dataset → Wish → Option Refusal
content_refusal w d wish =
    option_or (rows_refusal w (wide wish.added d).cvd.schema (adds wish.added) wish.rows) (records_refusal (wide wish.added d) (fresh_in_world d wish))

abbrev pub version_refusal : World → Dataset → Wish → Option Refusal
version_refusal w d wish = option_or (commit_refusal d wish.vids) (content_refusal w d wish)

abbrev pub parents_of_set : List ℕ → List ℕ → Option Dataset → Option Refusal
parents_of_set name vids None = Some (no.NoCvd name)
parents_of_set name vids (Some d) = commit_refusal d vids

abbrev pub parents_refusal : World → List ℕ → List ℕ → Option Refusal
parents_refusal w name vids = parents_of_set name vids (set_named w name)

abbrev pub drop_of_set : List ℕ → Option Dataset → Option Refusal
drop_of_set name None = Some (no.NoCvd name)
drop_of_set name (Some d) = None

abbrev pub drop_refusal : World → List ℕ → Option Refusal
drop_refusal w name = drop_of_set name (set_named w name)

-- the dataset is there, and has this schema
abbrev pub HasSchema : Shape → Option Dataset → Type 0
HasSchema schema None = ⊥
HasSchema schema (Some d) = schema ≡ d.cvd.schema

-- neither the host nor the pages are the cause
abbrev pub IsByNumbers : StoreErr → Type 0
IsByNumbers why.Host = ⊥
IsByNumbers (why.Damaged area at) = ⊥
IsByNumbers (why.Full pages) = ⊥
IsByNumbers why.JournalFull = ⊥
IsByNumbers _ = Unit {0}

-- A fault of the host and want of memory say nothing. Nothing is damaged.
abbrev pub IsRefusedAs : List ℕ → Option Refusal → StoreErr → Type 0
IsRefusedAs name off why.Host = Unit {0}
IsRefusedAs name off why.Memory = Unit {0}
IsRefusedAs name off (why.Damaged area at) = ⊥
IsRefusedAs name off (why.Full pages) = off ≡ None
IsRefusedAs name off why.JournalFull = off ≡ None
IsRefusedAs name off other = off ≡ refusal_of name other

abbrev pub IsLack : Entry → List Made → Move → World → StoreErr → Type 0
IsLack entry past m w (why.Full pages) = LacksRun entry past m w pages
IsLack entry past m w why.JournalFull = LacksRecord entry past m w
IsLack entry past m w _ = Unit {0}

-- the moves with one more
abbrev pub and_made : List Made → Move → World → List Made
and_made past m w = past ++ record { move = m; world = w } ∷ []
