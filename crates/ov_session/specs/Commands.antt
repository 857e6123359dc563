-- What serving a command keeps to on every host and stage.
--     Goes old new      a host: no call changes whether it tells its bytes, and its counts of faults and of fetched bytes don't fall
--     Attended old new      a stage
--     IsBad source stage held s page      what is read of these versions is damaged, and this page names it
--     IsDamaged user command stage before now s page      what the user's command reads by its row is damaged, and the numbers don't
--                                                         refuse it; a `generate` by what the store keeps now, after the versions that it
--                                                         made of what it kept before, and a `migrate` so after its steps
--     MeetsDamage user command stage held s page      damage that it meets before it is answered
--     IfNoFile P reply      this holds where the reply is that there is no such file
--     Acts d s t w result ..      where the store is at a World, a command does what it means, or is stopped in it
use Rattle.std.specs.Prelude.{◌≡◌, ◌≤◌, ◌-◌, ◌^◌, ◌⊎◌, min, ℕ, Bool, true, false, List, [], ◌∷◌, ◌++◌, length, Option, Some, None, Result, Ok, Err}
use Rattle.std.specs.List.{All}
use Rattle.ov_host.specs.declared.area.Area.TheVariants.{Pages}
use Rattle.ov_host.specs.Host.{Rose, State}
use Rattle.ov_host.specs.Stage.{Files, Staged}
use Rattle.ov_core.specs.Held.{Held}
use Rattle.law_runs.specs.Serving.{Breaks, Does}
use Rattle.ov_catalog.specs.Reached.{IfThere}
use Rattle.ov_checkout.specs.Given.{Given}
use Rattle.ov_fetch.specs.Extents.{page_bytes}
use Rattle.ov_model.specs.Act.{Deed, Session, commit_deed, commit_refusal, commit_rows, does, merge_of, refuses, with_rows}
use Rattle.ov_model.specs.Csv.{text_of}
use Rattle.ov_model.specs.Line.{Comment, Line}
use Rattle.ov_model.specs.Forms.{schema_refusal}
use Rattle.ov_model.specs.Moves.{Init, wide}
use Rattle.ov_model.specs.Book.{Row}
use Rattle.ov_model.specs.declared.command.Command.{Command}
use Rattle.ov_model.specs.World.{Dataset, World, set_named}
use Rattle.ov_model.specs.declared.refusal.Refusal.{Refusal}
use Rattle.ov_model.specs.declared.refusal.Refusal.TheVariants as no
use Rattle.ov_model.specs.declared.reply.Reply.TheVariants as says
use Rattle.ov_optimize.specs.Damages.{HasBadPart, HasHighRid}
use Rattle.ov_read.specs.Damages.{HasBadList}
use Rattle.ov_value.specs.declared.column.Column.{Column}
use Rattle.ov_value.specs.declared.schema_err.SchemaErr.{SchemaErr}
use Rattle.ov_value.specs.Shapes.{Shape}
use Rattle.ov_value.specs.Spelling.{IsRow}
use Rattle.ov_store.specs.Beginning.{IsShort}
use Rattle.ov_registry.specs.Last.{AreLast, IsLastDamaged}
use Rattle.ov_staging.specs.Changing.{IsChangeDamaged}
use Rattle.ov_session.specs.Reads.{Own, Nought, Versions, Steps, Later, Reads, Source, RowsOf, ParentsOf, PlanOf, ListsOf, SegmentsOf, LastOf, ChangeOf, Wanted, advise_off, reads_of, within_set_off}
use Rattle.ov_session.specs.Stepping.{IsStepDamaged}
use Rattle.ov_session.specs.declared.changing.Asked.{Asked}
use Rattle.ov_session.specs.declared.changing.Asked.TheVariants as asked
use Rattle.ov_session.specs.declared.serving.Served.{Served}
use Rattle.ov_session.specs.declared.serving.Served.TheVariants as served
use Rattle.ov_model.specs.declared.reply.Reply.{Reply}
use Rattle.ov_session.specs.declared.errors.EndErr.{EndErr}
use Rattle.ov_session.specs.declared.errors.EndErr.TheVariants as ending
use Rattle.ov_store.specs.Committing.{IfSet, IsDamagedAt, Set, TakesRows, adds, commit_off, schema_for}
use Rattle.ov_store.specs.Planning.{IsDamagedFor, optimize_off}
use Rattle.ov_store.specs.Scanning.{IsDamagedIn, scan_off, set_in, vids_in}
use Rattle.ov_generate.specs.Reads.{HasDamagedVersion}
use Rattle.ov_files.specs.Files.{file_rows}
use Rattle.std.specs.FinMap.{get}

-- the count of fetched bytes stays at 2^64 - 1 once it is there
pub record Goes (old new : State) : Type 0 where
  pub told : new.tells ≡ old.tells
  pub kept : new.keeps ≡ old.keeps
  pub faults : old.faults ≤ new.faults
  pub fetched : min old.fetched (2 ^ 64 - 1) ≤ new.fetched

pub record Attended (old new : Staged) : Type 0 where
  pub told : new.tells ≡ old.tells
  pub faults : old.faults ≤ new.faults
  pub misses : old.misses ≤ new.misses

-- where the stage tells its files, the rows that the file of this name spells
abbrev pub AreRowsOf : Shape → List ℕ → Staged → List Row → Type 0
AreRowsOf schema file stage rows = stage.tells ≡ true → file_rows schema file (get stage.files file) ≡ Ok rows

-- a list or a partition of the versions that a checkout names
abbrev pub IsScanDamaged : List ℕ → List ℕ → Held → State → ℕ → Type 0
IsScanDamaged cvd vids held s page = (scan_off held.numbers cvd vids ≡ None) × IsDamagedIn (set_in held.numbers cvd) vids s page

-- these versions as the parents of a file's rows, which are rows of the schema with the added columns; the parents are tested by the
-- schema before it grows
abbrev pub IsCommitDamaged : List ℕ → List ℕ → List Column → List ℕ → List ℕ → Staged → Held → State → ℕ → Type 0
IsCommitDamaged cvd vids added file message stage held s page =
    (rows : List Row) × (commit_off held cvd vids added rows ≡ None)
    × IfSet (λ set. AreRowsOf (schema_for set.schema added) file stage rows
    × IsDamagedAt set (record { vids = vids; message = message; added = added; rows = rows }) s page)
    (set_in held.numbers cvd)

-- a list or a segment of the dataset, where nothing refuses the plan
abbrev pub IsPlanDamaged : List ℕ → ℕ → ℕ → Held → State → ℕ → Type 0
IsPlanDamaged cvd p q held s page = (optimize_off held.numbers cvd p q ≡ None) × IfSet (λ set. IsDamagedFor set s page) (set_in held.numbers cvd)

-- ---- by its row

abbrev pub IsParentsDamaged : Wanted → Staged → Held → State → ℕ → Type 0
IsParentsDamaged wanted stage held s page = IsCommitDamaged wanted.cvd wanted.vids wanted.added wanted.file wanted.message stage held s page

abbrev pub IsListsDamaged : Set → State → ℕ → Type 0
IsListsDamaged set s page = s.tells ≡ true → HasBadList (page_bytes s) set (vids_in set) page ⊎ HasHighRid (page_bytes s) set page

abbrev pub IsSegmentsDamaged : Set → State → ℕ → Type 0
IsSegmentsDamaged set s page = s.tells ≡ true → HasBadPart (page_bytes s) set page

-- within a budget: the lists of a dataset, and once these were whole its segments, where the numbers refuse nothing
abbrev pub AreListsDamaged : List ℕ → Held → State → ℕ → Type 0
AreListsDamaged cvd held s page =
    (within_set_off cvd (set_in held.numbers cvd) ≡ None) × IfSet (λ set. IsListsDamaged set s page) (set_in held.numbers cvd)

abbrev pub IsWithinDamaged : List ℕ → Held → State → ℕ → Type 0
IsWithinDamaged cvd held s page =
    (within_set_off cvd (set_in held.numbers cvd) ≡ None)
    × (IfSet (λ set. IsListsDamaged set s page) (set_in held.numbers cvd)
    ⊎ (((other : ℕ) → IfSet (λ set. IsListsDamaged set s other) (set_in held.numbers cvd) → ⊥)
    × IfSet (λ set. IsSegmentsDamaged set s page) (set_in held.numbers cvd)))

-- of an advice the lists alone
abbrev pub IsAdviceDamaged : List ℕ → ℕ → ℕ → Held → State → ℕ → Type 0
IsAdviceDamaged cvd a b held s page =
    (advise_off cvd a b (set_in held.numbers cvd) ≡ None) × IfSet (λ set. IsListsDamaged set s page) (set_in held.numbers cvd)

-- what is read of these versions is damaged
abbrev pub IsBad : Source → Staged → Held → State → ℕ → Type 0
IsBad (RowsOf set vids) stage held s page = IsDamagedIn set vids s page
IsBad (ParentsOf set wanted) stage held s page = IsParentsDamaged wanted stage held s page
IsBad (PlanOf set) stage held s page = IfSet (λ d. IsDamagedFor d s page) set
IsBad (ListsOf set) stage held s page = IfSet (λ d. IsListsDamaged d s page) set
IsBad (SegmentsOf set) stage held s page = IfSet (λ d. IsSegmentsDamaged d s page) set
IsBad (LastOf set) stage held s page = IsLastDamaged set s page
IsBad (ChangeOf which set rows) stage held s page = IsChangeDamaged which set rows held s page

-- the first of them that is names the page
abbrev pub AreBad : List Source → Staged → Held → State → ℕ → Type 0
AreBad [] stage held s page = ⊥
AreBad (x ∷ []) stage held s page = IsBad x stage held s page
AreBad (x ∷ y ∷ sources) stage held s page =
    IsBad x stage held s page ⊎ (((other : ℕ) → IsBad x stage held s other → ⊥) × AreBad (y ∷ sources) stage held s page)

-- with what is read by the rows of the registry, where there is any
abbrev pub AreAnyBad : Option Later → List Source → Staged → Held → State → ℕ → Type 0
AreAnyBad None sources stage held s page = AreBad sources stage held s page
AreAnyBad (Some later) sources stage held s page =
    AreBad sources stage held s page ⊎ ((rows : List Row) × AreLast later.registry s rows × AreBad (later.sources rows) stage held s page)

abbrev pub DamagedBy : Own → Reads → Staged → Held → Held → State → ℕ → Type 0
DamagedBy Nought row stage before now s page = (row.off ≡ None) × AreAnyBad row.later (row.always ++ row.if_done) stage before s page
DamagedBy (Versions cvd seed rows versions) row stage before now s page = HasDamagedVersion cvd seed rows versions before now s page
DamagedBy (Steps count) row stage before now s page = IsStepDamaged count now s page

abbrev pub IsDamaged : List ℕ → Command → Staged → Held → Held → State → ℕ → Type 0
IsDamaged user command stage before now s page =
    DamagedBy (reads_of before.numbers user command).own (reads_of before.numbers user command) stage before now s page

-- What is read always is read before an answer that isn't a refusal by numbers: by an optimize where there is no room for its record,
-- too.
abbrev pub MeetsDamage : List ℕ → Command → Staged → Held → State → ℕ → Type 0
MeetsDamage user command stage held s page =
    ((reads_of held.numbers user command).off ≡ None) × AreBad (reads_of held.numbers user command).always stage held s page

-- what holds where the reply is that there is no file of some name
abbrev pub IfNoFile : Type 0 → Reply → Type 0
IfNoFile P reply = (name : List ℕ) → reply ≡ says.Refused (no.NoFile name) → P

-- ---- how a command ends

abbrev pub IsNoDamage : EndErr → Type 0
IsNoDamage (ending.Damaged area at) = ⊥
IsNoDamage _ = Unit {0}

-- `s` is the session before and `t` the one after; the store keeps `before` and `now`
abbrev pub Acts : Deed → Session → Session → World → Result Reply EndErr → Held → Held → State → State → Type 0
Acts d s t w (Ok reply) before now old new = Does d s t w reply before now old new
Acts d s t w (Err why) before now old new = Breaks d s w old new

-- damage of the pages, at a page of which this holds; other ends aren't of the pages
abbrev pub IsDamageOf : (ℕ → Type 0) → EndErr → Type 0
IsDamageOf P (ending.Damaged area at) = (area ≡ Pages) × P at
IsDamageOf P _ = Unit {0}

abbrev pub IfDamaged : Type 0 → EndErr → Type 0
IfDamaged P (ending.Damaged area at) = P
IfDamaged P _ = Unit {0}

-- neither the host nor the store is the cause
abbrev pub IsNoHost : EndErr → Type 0
IsNoHost ending.Host = ⊥
IsNoHost (ending.Damaged area at) = ⊥
IsNoHost _ = Unit {0}

-- what an Init does with the rows in key order
abbrev pub begun : Session → List ℕ → Shape → List Row → Deed
begun s cvd schema rows = does s (Init cvd schema rows) (says.Init cvd (length rows))

-- ---- a commit, before its rows are stored

abbrev pub HasRowsOf : Shape → Asked → Type 0
HasRowsOf schema (asked.Rows rows) = All (IsRow schema) rows
HasRowsOf schema (asked.Said reply) = Unit {0}

-- the schema takes the columns, and these are rows of the wider one
abbrev pub HasWideRows : Shape → List Column → Asked → Type 0
HasWideRows schema added (asked.Rows rows) = TakesRows schema added rows
HasWideRows schema added (asked.Said reply) = Unit {0}

abbrev pub HasShortRows : Asked → Type 0
HasShortRows (asked.Rows rows) = All IsShort rows
HasShortRows (asked.Said reply) = Unit {0}

-- the dataset is there
abbrev pub HasSet : Option Set → Asked → Type 0
HasSet o (asked.Rows rows) = (set : Set) × (o ≡ Some set)
HasSet o (asked.Said reply) = Unit {0}

-- the rows are those of the file, as far as the stage tells
abbrev pub HasFileRows : Shape → List ℕ → Staged → Asked → Type 0
HasFileRows schema file stage (asked.Rows rows) = AreRowsOf schema file stage rows
HasFileRows schema file stage (asked.Said reply) = Unit {0}

-- a refusal for want of a file, only where a miss of the stage was counted
abbrev pub HasMissed : Staged → Staged → Asked → Type 0
HasMissed old new (asked.Rows rows) = Unit {0}
HasMissed old new (asked.Said reply) = IfNoFile (Rose old.misses new.misses) reply

-- it is what was found by a schema: its rows, or its refusal
abbrev pub IsFoundAs : Result (List Row) Refusal → Asked → Type 0
IsFoundAs found (asked.Rows rows) = found ≡ Ok rows
IsFoundAs found (asked.Said reply) = (refusal : Refusal) × (reply ≡ says.Refused refusal) × (found ≡ Err refusal)

-- by the schema with the added columns, where they are accepted; else their refusal
abbrev pub IsFoundBy : Result Shape SchemaErr → List ℕ → Files → Asked → Type 0
IsFoundBy (Ok schema) file files found = IsFoundAs (file_rows schema file (get files file)) found
IsFoundBy (Err why) file files (asked.Rows rows) = ⊥
IsFoundBy (Err why) file files (asked.Said reply) = reply ≡ says.Refused (schema_refusal why)

-- the rows are those of the file, for a version that may be; or the command is refused so
abbrev pub IsAskedOf : World → Session → List ℕ → List ℕ → List ℕ → List Column → List ℕ → Asked → Type 0
IsAskedOf w s cvd vids message added file (asked.Rows rows) = IfThere (λ d. (commit_refusal d vids ≡ None)
    × (commit_deed w s cvd vids message added file (Some d)
    ≡ with_rows w s (wide added d).cvd.schema (adds added) (commit_rows s d vids message added) (Ok rows))) (set_named w cvd)
IsAskedOf w s cvd vids message added file (asked.Said reply) =
    (refusal : Refusal) × (reply ≡ says.Refused refusal) × (commit_deed w s cvd vids message added file (set_named w cvd) ≡ refuses s refusal)

-- ---- a checkout

-- the text is that of the merge of these versions
pub record IsMergeOf (d : Dataset) (vids : List ℕ) (made : Given) : Type 0 where
  pub text : made.text ≡ text_of d.cvd.schema (merge_of d.cvd vids)
  pub rows : made.rows ≡ length (merge_of d.cvd vids)

-- ---- a reply

-- neither the stage nor the store is the cause
abbrev pub IsUnsaid : EndErr → Type 0
IsUnsaid ending.Stage = ⊥
IsUnsaid (ending.Damaged area at) = ⊥
IsUnsaid _ = Unit {0}

abbrev pub is_comment_of : Served → Bool
is_comment_of served.Comment = true
is_comment_of _ = false

abbrev pub is_comment_in : Line → Bool
is_comment_in Comment = true
is_comment_in _ = false

abbrev pub is_refusal_of : Served → Bool
is_refusal_of served.Refused = true
is_refusal_of _ = false

-- whether a line was served by a reply that is an error
abbrev pub is_refused : Result Served EndErr → Bool
is_refused (Ok served) = is_refusal_of served
is_refused (Err why) = false

-- the reply was printed, and is an error or none
abbrev pub IsSaid : Bool → Served → Type 0
IsSaid error served.Comment = ⊥
IsSaid error served.Done = error ≡ false
IsSaid error served.Refused = error ≡ true
