-- What `commit` does.
--     schema_for schema added      the schema of the version's rows: with the added columns
--     TakesRows schema added rows      the schema takes these columns, and these are rows of the wider one
--     commit_off held name vids added rows      why it is refused by numbers: 10; per version 12, 13; 15; 19, 14, 23
--     asked_of s vids message rows parents      the version that is asked for, where these are its parents' records
--     IsCommitBy, IsCommitted      what a commit brings, from what was read; that it was made
--     IsUncommitted      why it wasn't
--     committed name wish w      the World with the version; as it is where no dataset has the name
use Rattle.std.specs.Prelude.{◌≡◌, ◌<◌, ◌≤◌, ◌+◌, ◌^◌, ◌⊎◌, ◌==◌, ℕ, Bool, true, not, nat_le, List, [], length, Option, Some, None, Ok}
use Rattle.std.specs.List.{All, AllZip}
use Rattle.std.specs.Option.{option_map, option_or}
use Rattle.ov_host.specs.declared.area.Area.TheVariants.{Pages}
use Rattle.ov_host.specs.declared.area.Extent.{Extent}
use Rattle.ov_host.specs.Host.{Rose, State}
use Rattle.ov_segment.specs.declared.numbered.Record.{Record}
use Rattle.ov_value.specs.Shapes.{Shape}
use Rattle.ov_value.specs.Spelling.{IsRow}
use Rattle.ov_value.specs.declared.column.Column.{Column}
use Rattle.ov_model.specs.Act.{fresh_of as fresh_of_model, schema_with}
use Rattle.ov_model.specs.Book.{Row}
use Rattle.ov_model.specs.Merge.{in_key_order}
use Rattle.ov_model.specs.Moves.{Move, Commit, accepted_or, moved, wide}
use Rattle.ov_model.specs.Records.{order_of}
use Rattle.ov_model.specs.World.{Dataset, World, set_named}
use Rattle.ov_catalog.specs.Extents.{live}
use Rattle.ov_catalog.specs.Numbers.{SetNumbers}
use Rattle.ov_catalog.specs.Reached.{Fits}
use Rattle.ov_core.specs.Held.{Held}
use Rattle.ov_core.specs.Rooms.{HaveRuns, IsFull, PassesJournal}
use Rattle.ov_fetch.specs.declared.errors.FetchErr.TheVariants as fetch
use Rattle.ov_fetch.specs.Extents.{page_bytes}
use Rattle.ov_rows.specs.Refusing.{rows_off}
use Rattle.law_commits.specs.Agreeing.{ParentsAgree}
use Rattle.ov_parents.specs.Parents.{IsParent, RefusesParents, with_added}
use Rattle.ov_new_version.specs.Asked.{Asked, fresh_of}
use Rattle.ov_new_version.specs.Commits.{HasRecords, IsCommitOf, IsTooLong}
use Rattle.ov_new_version.specs.Joined.{RefusesJoined, joined_of}
use Rattle.ov_store.specs.declared.errors.StoreErr.{StoreErr}
use Rattle.ov_store.specs.declared.errors.StoreErr.TheVariants as why
use Rattle.ov_store.specs.declared.store.Committed.{Committed}
use Rattle.ov_store.specs.declared.unready.Unready.{Unready}
use Rattle.ov_store.specs.declared.unready.Unready.TheVariants as unready
use Rattle.ov_store.specs.Changes.{Bringing, IsDone}
use Rattle.ov_store.specs.Errors.{of_rows}
use Rattle.ov_store.specs.Refusals.{off_if, vids_off}
use Rattle.ov_store.specs.Scanning.{set_in}
use Rattle.ov_store.specs.Unready.{AsksTooMuch}

abbrev pub Set : Type 0
Set = SetNumbers Extent Extent

abbrev pub parents_off : Set → List ℕ → Option StoreErr
parents_off s vids = option_or (vids_off (length s.versions) [] vids) (off_if (nat_le 65535 (length s.versions)) why.TooManyVersions)

abbrev pub parents_off_in : Option Set → List ℕ → Option StoreErr
parents_off_in None vids = Some why.NoCvd
parents_off_in (Some s) vids = parents_off s vids

-- as it is where no columns are added
abbrev pub schema_for : Shape → List Column → Shape
schema_for schema added = accepted_or schema (schema_with schema added)

pub record TakesRows (schema : Shape) (added : List Column) (rows : List Row) : Type 0 where
  pub wider : Shape
  pub with : schema_with schema added ≡ Ok wider
  pub fit : All (IsRow wider) rows

-- whether columns are added
abbrev pub adds : List Column → Bool
adds added = not (length added == 0)

abbrev pub to_off : ℕ → Option Set → List ℕ → List Column → List Row → Option StoreErr
to_off format None vids added rows = Some why.NoCvd
to_off format (Some s) vids added rows =
    option_or (parents_off s vids) (option_map of_rows (rows_off format (schema_for s.schema added) (adds added) rows))

abbrev pub commit_off : Held → List ℕ → List ℕ → List Column → List Row → Option StoreErr
commit_off held name vids added rows = to_off held.journal.format (set_in held.numbers name) vids added rows

-- the rows stand in key order
abbrev pub commit_move : Dataset → List ℕ → List ℕ → List Column → List Row → Move
commit_move d vids message added rows = Commit d.cvd.number vids message added (in_key_order (wide added d).cvd.schema rows)

-- what is asked of `commit`
pub record Wish : Type 0 where
  pub vids : List ℕ
  pub message : List ℕ
  pub added : List Column
  pub rows : List Row

-- the parents' records have the added columns
abbrev pub asked_of : Set → Wish → List (List Record) → Asked
asked_of s wish parents = record {
  set = s;
  vids = wish.vids;
  parents = with_added wish.added parents;
  message = wish.message;
  added = wish.added;
  schema = schema_for s.schema wish.added;
  rows = in_key_order (schema_for s.schema wish.added) wish.rows;
}

-- the parents' records, as they were read
pub record AreRead (s : Set) (wish : Wish) (t : State) (parents : List (List Record)) : Type 0 where
  pub agree : ParentsAgree s wish.vids parents
  pub read : t.tells ≡ true → AllZip (IsParent (page_bytes t) s) wish.vids parents

pub record IsCommitBy (s : Set) (wish : Wish) (t : State) (b : Bringing) (fresh : ℕ) : Type 0 where
  pub parents : List (List Record)
  pub are : AreRead s wish t parents
  pub commit : IsCommitOf (asked_of s wish parents) t.tells (page_bytes t) b.event b.list b.segment
  pub fresh_is : fresh ≡ fresh_of (asked_of s wish parents)

pub record IsCommitted (s : Set) (wish : Wish) (t : State) (old new : Held) (made : Committed) : Type 0 where
  pub brought : Bringing
  pub by : IsCommitBy s wish t brought made.fresh
  pub done : IsDone brought old new
  pub vid_is : made.vid ≡ length s.versions + 1
  pub rows_is : made.rows ≡ length wish.rows

-- ---- why not

-- a parent is damaged, or the partition that is joined doesn't agree, which is looked at once the records were counted
abbrev pub IsDamagedAt : Set → Wish → State → ℕ → Type 0
IsDamagedAt s wish t page = t.tells ≡ true → RefusesParents (fetch.Damaged page) (page_bytes t) s wish.vids
    ⊎ ((parents : List (List Record)) × AreRead s wish t parents × HasRecords (asked_of s wish parents)
    × RefusesJoined (fetch.Damaged page) s (page_bytes t) (joined_of (asked_of s wish parents)))

pub record HasTooMany (s : Set) (wish : Wish) (t : State) : Type 0 where
  pub parents : List (List Record)
  pub are : AreRead s wish t parents
  pub many : 2 ^ 31 < s.records + fresh_of (asked_of s wish parents)

pub record FindsNoRun (s : Set) (wish : Wish) (t : State) (held : Held) (pages : ℕ) : Type 0 where
  pub brought : Bringing
  pub fresh : ℕ
  pub by : IsCommitBy s wish t brought fresh
  pub full : IsFull (live held.numbers) brought.list brought.segment pages

pub record FindsNoRecord (s : Set) (wish : Wish) (t : State) (held : Held) : Type 0 where
  pub brought : Bringing
  pub fresh : ℕ
  pub by : IsCommitBy s wish t brought fresh
  pub runs : HaveRuns (live held.numbers) brought.list brought.segment
  pub passes : PassesJournal held brought.event

abbrev pub IfSet : (Set → Type 0) → Option Set → Type 0
IfSet P None = ⊥
IfSet P (Some s) = P s

-- A refusal by numbers comes before anything is read.
abbrev pub IsUncommitted : Held → List ℕ → Wish → State → State → StoreErr → Type 0
IsUncommitted held name wish old new why.Host = Rose old.faults new.faults
IsUncommitted held name wish old new why.Memory = Unit {0}
IsUncommitted held name wish old new (why.Damaged area at) =
    (area ≡ Pages) × (commit_off held name wish.vids wish.added wish.rows ≡ None) × IfSet (λ s. IsDamagedAt s wish old at) (set_in held.numbers name)
IsUncommitted held name wish old new why.TooManyRecords =
    (commit_off held name wish.vids wish.added wish.rows ≡ None) × IfSet (λ s. HasTooMany s wish old) (set_in held.numbers name)
IsUncommitted held name wish old new (why.Full pages) =
    (commit_off held name wish.vids wish.added wish.rows ≡ None) × IfSet (λ s. FindsNoRun s wish old held pages) (set_in held.numbers name)
IsUncommitted held name wish old new why.JournalFull =
    (commit_off held name wish.vids wish.added wish.rows ≡ None) × IfSet (λ s. FindsNoRecord s wish old held) (set_in held.numbers name)
IsUncommitted held name wish old new other = (commit_off held name wish.vids wish.added wish.rows ≡ Some other) × (new ≡ old)

-- ---- before anything is stored

-- the segment that the version would have is too long; both have so many pages
pub record IsTooLongFor (s : Set) (wish : Wish) (t : State) (list_pages segment_pages : ℕ) : Type 0 where
  pub parents : List (List Record)
  pub are : AreRead s wish t parents
  pub long : IsTooLong (asked_of s wish parents) t.tells (page_bytes t) list_pages segment_pages

abbrev pub IsUnready : Held → List ℕ → Wish → State → State → Unready → Type 0
IsUnready held name wish old new (unready.Off refusal) = IsUncommitted held name wish old new refusal
IsUnready held name wish old new (unready.TooLong list_pages segment_pages) =
    (commit_off held name wish.vids wish.added wish.rows ≡ None) × IfSet (λ s. IsTooLongFor s wish old list_pages segment_pages) (set_in held.numbers name)
    × (list_pages < 2 ^ 20) × (2 ^ 20 ≤ segment_pages)

-- ---- at a World

-- as many new records as the model has
abbrev pub fresh_in_world : Dataset → Wish → ℕ
fresh_in_world d wish = fresh_of_model (wide wish.added d) wish.vids wish.message (in_key_order (wide wish.added d).cvd.schema wish.rows)

abbrev pub with_commit : Option Dataset → Wish → World → World
with_commit None wish w = w
with_commit (Some d) wish w = moved (commit_move d wish.vids wish.message wish.added wish.rows) w

abbrev pub committed : List ℕ → Wish → World → World
committed name wish w = with_commit (set_named w name) wish w

-- nothing is damaged, and there would be too many records exactly where the model says so
abbrev pub IsSparedOff : Dataset → Wish → StoreErr → Type 0
IsSparedOff d wish (why.Damaged area at) = ⊥
IsSparedOff d wish why.TooManyRecords = 2 ^ 31 < length (order_of (wide wish.added d).cvd.versions) + fresh_in_world d wish
IsSparedOff d wish _ = Unit {0}

-- and before anything is stored no room is wanting
abbrev pub IsSparedYet : Dataset → Wish → StoreErr → Type 0
IsSparedYet d wish (why.Full pages) = ⊥
IsSparedYet d wish why.JournalFull = ⊥
IsSparedYet d wish off = IsSparedOff d wish off

-- what is too long is what the World asks for, and it refuses nothing of it
abbrev pub IsSparedBy : World → Dataset → Wish → Unready → Type 0
IsSparedBy w d wish (unready.Off refusal) = IsSparedYet d wish refusal
IsSparedBy w d wish (unready.TooLong list_pages segment_pages) =
    Fits (commit_move d wish.vids wish.message wish.added wish.rows) w × AsksTooMuch (commit_move d wish.vids wish.message wish.added wish.rows) w list_pages segment_pages
