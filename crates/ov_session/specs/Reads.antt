-- What a command reads, as one row for each that there is: by the numbers of the store and the user alone.
--     Source      versions of a dataset and what is read of them
--     Reads      a row: what the numbers refuse, what is read, what is changed, what is done with the stage's files, and who the
--                user is then
--     reads_of n user command      the row of a command; who may ask it is decided before, but for a `run`
--     fetch row      how many bytes of pages it may fetch; nothing where the numbers refuse it
use Rattle.std.specs.Prelude.{ℕ, ◌+◌, Bool, false, not, nat_lt, List, [], ◌∷◌, ◌++◌, length, map, Option, Some, None, Result, Ok, Err, is_some}
use Rattle.std.specs.Option.{option_or, option_and_then}
use Rattle.ov_host.specs.declared.area.Extent.{Extent}
use Rattle.ov_value.specs.declared.column.Column.{Column}
use Rattle.ov_value.specs.declared.schema_err.SchemaErr.{SchemaErr}
use Rattle.ov_value.specs.Shapes.{Shape}
use Rattle.ov_catalog.specs.Numbers.{Numbers, nothing_yet}
use Rattle.ov_model.specs.Act.{columns_of, if_so, is_threshold, schema_with}
use Rattle.ov_model.specs.Book.{Row}
use Rattle.ov_model.specs.Deed.{file_of_table}
use Rattle.ov_model.specs.Forms.{schema_refusal}
use Rattle.ov_model.specs.Registry.{stage_name, stage_schema, table_in, users_name, with_row}
use Rattle.ov_model.specs.declared.command.Command.{Command}
use Rattle.ov_model.specs.declared.command.Command.TheVariants as asks
use Rattle.ov_model.specs.declared.refusal.Refusal.{Refusal}
use Rattle.ov_model.specs.declared.refusal.Refusal.TheVariants as no
use Rattle.ov_query.specs.Queries.{Reading, query_off, query_reads}
pub use Rattle.ov_query.specs.Queries.{bytes_in}
use Rattle.ov_read.specs.Sizes.{list_bytes_for, segment_bytes_for}
use Rattle.ov_registry.specs.declared.registry.Registry.{Registry}
use Rattle.ov_registry.specs.declared.registry.Registry.TheVariants as registry
use Rattle.ov_staging.specs.Origins.{staged_in}
use Rattle.ov_staging.specs.Reading.{foreign_off}
use Rattle.ov_staging.specs.Tables.{table_rows}
use Rattle.ov_staging.specs.Taking.{stage_off, staged_row}
use Rattle.ov_staging.specs.Users.{config_off, create_off, user_rows}
use Rattle.ov_session.specs.Errors.{plan_refusal}
use Rattle.ov_store.specs.Committing.{Set, parents_off_in}
use Rattle.ov_store.specs.Planning.{optimize_off}
use Rattle.ov_store.specs.Refusals.{new_off, refused}
use Rattle.ov_store.specs.Scanning.{all_vids, scan_off, set_in}
use Rattle.ov_store.specs.declared.plan_errors.PlanErr.{PlanErr}

-- ---- what is read

-- what is asked of a commit: its dataset, its parents, its file, its message and the columns that it adds
pub record Wanted : Type 0 where
  pub cvd : List ℕ
  pub vids : List ℕ
  pub file : List ℕ
  pub message : List ℕ
  pub added : List Column

-- Where a set is none, nothing is read.
pub data Source : Type 0 where
  -- the rows of these versions: their lists, and the segments of the partitions that serve them
  RowsOf : (set : Option Set) (vids : List ℕ) → Source
  -- the rows of the parents of a file's rows
  ParentsOf : (set : Option Set) (wanted : Wanted) → Source
  -- all lists and all segments, for a plan
  PlanOf : (set : Option Set) → Source
  -- all lists; and, once these were read, all segments
  ListsOf : (set : Option Set) → Source
  SegmentsOf : (set : Option Set) → Source
  -- the rows of the last version of a dataset of the registry, in which no key may stand twice
  LastOf : (set : Option Set) → Source
  -- what the one Commit of that dataset reads, where it is there: the last version, as the parent of these rows of it, and the
  -- partition that they join
  ChangeOf : (which : Registry) (set : Option Set) (rows : List Row → List Row) → Source

-- what it reads of what it makes itself: nothing, its versions' parents, or what so many steps read
pub data Own : Type 0 where
  Nought : Own
  Versions : (cvd : List ℕ) (seed rows versions : ℕ) → Own
  Steps : (count : ℕ) → Own

-- which changes of the store it makes
pub data Changes : Type 0 where
  Nothing : Changes
  Once : Changes
  Several : Changes

-- What it does with a file of the stage: it isn't looked at; it is read, before a change; it is written, which is the only change; or
-- it is written behind a change of the store.
pub data File : Type 0 where
  Unused : File
  Taken : File
  Given : File
  GivenBehind : File

-- what is read by the rows of a dataset of the registry, once these were read
pub record Later : Type 0 where
  pub registry : Option Set
  pub sources : List Row → List Source

pub record Reads : Type 0 where
  -- why the numbers refuse it, before anything is read
  pub off : Option Refusal
  -- what is read whole before each other answer, in this order
  pub always : List Source
  -- what is read, too, before an answer that is no refusal
  pub if_done : List Source
  -- and by the rows of the registry that were read
  pub later : Option Later
  pub own : Own
  pub changes : Changes
  pub file : File
  -- a plan begins by it, as far as the numbers say
  pub begins : Bool
  -- the user from here on, where it isn't refused; none where the user stays
  pub becomes : Option (List ℕ)

-- ---- how many bytes that is

-- of their lists alone, and of the partitions alone
abbrev pub lists_in : Option Set → List ℕ → ℕ
lists_in None vids = 0
lists_in (Some set) vids = list_bytes_for set vids

abbrev pub segments_in : Option Set → List ℕ → ℕ
segments_in None vids = 0
segments_in (Some set) vids = segment_bytes_for set vids

-- the last version
abbrev pub last_vid : Option Set → List ℕ
last_vid None = []
last_vid (Some set) = length set.versions ∷ []

abbrev pub source_bytes : Source → ℕ
source_bytes (RowsOf set vids) = bytes_in set vids
source_bytes (ParentsOf set wanted) = bytes_in set wanted.vids
source_bytes (PlanOf set) = bytes_in set (all_vids set)
source_bytes (ListsOf set) = lists_in set (all_vids set)
source_bytes (SegmentsOf set) = segments_in set (all_vids set)
source_bytes (LastOf set) = bytes_in set (last_vid set)
source_bytes (ChangeOf which set rows) = bytes_in set (last_vid set)

abbrev pub bytes_of_all : List Source → ℕ
bytes_of_all [] = 0
bytes_of_all (x ∷ []) = source_bytes x
bytes_of_all (x ∷ y ∷ sources) = source_bytes x + bytes_of_all (y ∷ sources)

-- these bytes, where nothing is refused
abbrev pub if_allowed : {E : Type 0} → Option E → ℕ → ℕ
if_allowed None bytes = bytes
if_allowed (Some off) bytes = 0

abbrev pub fetch : Reads → ℕ
fetch row = if_allowed row.off (bytes_of_all (row.always ++ row.if_done))

-- ---- what the numbers refuse

-- 10
abbrev pub there_off : List ℕ → Option Set → Option Refusal
there_off cvd None = Some (no.NoCvd cvd)
there_off cvd (Some set) = None

-- 18 and 22 of a plan within a budget
abbrev pub within_set_off : List ℕ → Option Set → Option Refusal
within_set_off cvd None = Some (no.NoCvd cvd)
within_set_off cvd (Some set) = option_or (if_so (is_some set.plan) (no.Migrating cvd)) (if_so (nat_lt 4294000000 set.next_part) (no.NoNumbers cvd))

-- 17 of an advice
abbrev pub advise_off : List ℕ → ℕ → ℕ → Option Set → Option Refusal
advise_off cvd a b None = Some (no.NoCvd cvd)
advise_off cvd a b (Some set) = if_so (not (is_threshold b a)) no.BadThreshold

-- the refusal of a plan
abbrev pub plan_refused : List ℕ → Option PlanErr → Option Refusal
plan_refused cvd None = None
plan_refused cvd (Some off) = plan_refusal cvd off

-- 62 to 64 of the columns that are added
abbrev pub schema_off : Result Shape SchemaErr → Option Refusal
schema_off (Ok schema) = None
schema_off (Err why) = Some (schema_refusal why)

abbrev pub columns_off : List Column → Option Set → Option Refusal
columns_off added None = None
columns_off added (Some set) = schema_off (schema_with set.schema added)

-- 10; per version 12 and 13; 15; 62 to 64
abbrev pub commit_row_off : Numbers Extent Extent → List ℕ → List ℕ → List Column → Option Refusal
commit_row_off n cvd vids added = option_or (refused cvd (parents_off_in (set_in n cvd) vids)) (columns_off added (set_in n cvd))

-- ---- rows

-- nothing is read, and nothing is changed
abbrev pub none : Reads
none = record { off = None; always = []; if_done = []; later = None; own = Nought; changes = Nothing; file = Unused; begins = false; becomes = None }

abbrev pub refusing : Option Refusal → Reads
refusing off = record none { off = off }

-- printed, or put into a file
abbrev pub given_in : Option (List ℕ) → File
given_in None = Unused
given_in (Some file) = Given

-- with the row of a table that is staged
abbrev pub staged_rows : Numbers Extent Extent → List ℕ → List ℕ → List ℕ → List ℕ → List Row → List Row
staged_rows n user cvd vids table rows = with_row rows (staged_row n user cvd vids table)

abbrev pub checkout_reads : Numbers Extent Extent → List ℕ → List ℕ → List ℕ → Option (List ℕ) → Option (List ℕ) → Reads
checkout_reads n user cvd vids file None =
    record (refusing (refused cvd (scan_off n cvd vids))) { always = RowsOf (set_in n cvd) vids ∷ []; file = given_in file }
checkout_reads n user cvd vids file (Some table) =
    record (refusing (stage_off n cvd vids table)) {
      always = LastOf (set_in n stage_name) ∷ [];
      if_done = RowsOf (set_in n cvd) vids ∷ ChangeOf registry.Stage (set_in n stage_name) (staged_rows n user cvd vids table) ∷ [];
      changes = Once;
      file = GivenBehind;
    }

-- the parents of a commit are read once its file was
abbrev pub parents_read : Numbers Extent Extent → Wanted → List Source
parents_read n wanted = ParentsOf (set_in n wanted.cvd) wanted ∷ []

abbrev pub staged_parents : Numbers Extent Extent → List ℕ → List ℕ → Option (Set × List ℕ) → List Source
staged_parents n file message None = []
staged_parents n file message (Some from) =
    parents_read n (record { cvd = from.0.name; vids = from.1; file = file; message = message; added = [] })

abbrev pub staged_read : Numbers Extent Extent → List ℕ → List ℕ → List ℕ → List Row → List Source
staged_read n user table message rows =
    staged_parents n (file_of_table user table) message (option_and_then (staged_in n) (table_in rows user table))

-- of a `run`: the versions of a query; of a join those of the left side, and then those of the right one, each with its own bytes
abbrev pub rows_read : List Reading → List Source
rows_read reads = map (λ r. RowsOf r.set r.vids) reads

abbrev pub reads_of : Numbers Extent Extent → List ℕ → Command → Reads
reads_of n user (asks.Init cvd schema file) = record (refusing (refused cvd (new_off n cvd))) { changes = Once; file = Taken }
reads_of n user (asks.Checkout cvd vids file table) = checkout_reads n user cvd vids file table
reads_of n user (asks.Commit cvd vids file message added) =
    record (refusing (commit_row_off n cvd vids (columns_of added))) {
      if_done = parents_read n (record { cvd = cvd; vids = vids; file = file; message = message; added = columns_of added });
      changes = Once;
      file = Taken;
    }
reads_of n user (asks.CommitStaged owner table message) =
    record (refusing (foreign_off stage_schema (set_in n stage_name))) {
      always = LastOf (set_in n stage_name) ∷ [];
      later = Some (record { registry = set_in n stage_name; sources = staged_read n owner table message });
      changes = Once;
      file = Taken;
    }
reads_of n user (asks.Run text) = record (refusing (query_off n user text)) { always = rows_read (query_reads n text) }
reads_of n user (asks.Optimize cvd p q) =
    record (refusing (plan_refused cvd (optimize_off n cvd p q))) {
      always = PlanOf (set_in n cvd) ∷ [];
      changes = Once;
      begins = not (is_some (optimize_off n cvd p q));
    }
reads_of n user (asks.OptimizeWithin cvd budget) =
    record (refusing (within_set_off cvd (set_in n cvd))) {
      always = ListsOf (set_in n cvd) ∷ [];
      if_done = SegmentsOf (set_in n cvd) ∷ [];
      changes = Once;
      begins = not (is_some (within_set_off cvd (set_in n cvd)));
    }
reads_of n user (asks.Advise cvd budget a b) = record (refusing (advise_off cvd a b (set_in n cvd))) { always = ListsOf (set_in n cvd) ∷ [] }
reads_of n user (asks.Migrate count) = record none { own = Steps count; changes = Several }
reads_of n user (asks.Layout cvd) = refusing (there_off cvd (set_in n cvd))
reads_of n user (asks.Log cvd) = refusing (there_off cvd (set_in n cvd))
reads_of n user asks.Ls = none
reads_of n user (asks.DropCvd cvd) = record (refusing (there_off cvd (set_in n cvd))) { changes = Once }
reads_of n user asks.Checkpoint = record none { changes = Once }
reads_of n user (asks.Generate cvd seed rows versions) =
    record (refusing (refused cvd (new_off n cvd))) { own = Versions cvd seed rows versions; changes = Several }
reads_of n user (asks.CreateUser name) =
    record (refusing (create_off name (set_in n users_name))) {
      always = LastOf (set_in n users_name) ∷ [];
      if_done = ChangeOf registry.Users (set_in n users_name) (user_rows name) ∷ [];
      changes = Once;
    }
reads_of n user (asks.Config name) =
    record (refusing (config_off name (set_in n users_name))) {
      always = LastOf (set_in n users_name) ∷ [];
      becomes = Some name;
    }
reads_of n user asks.Whoami = none
reads_of n user (asks.Unstage owner table) =
    record (refusing (foreign_off stage_schema (set_in n stage_name))) {
      always = LastOf (set_in n stage_name) ∷ [];
      if_done = ChangeOf registry.Stage (set_in n stage_name) (table_rows owner table) ∷ [];
      changes = Once;
    }
reads_of n user asks.Tables = record (refusing (foreign_off stage_schema (set_in n stage_name))) { always = LastOf (set_in n stage_name) ∷ [] }

-- What it changes, and what it does with a file, hangs on no numbers and no user.
abbrev pub changes_of : Command → Changes
changes_of command = (reads_of nothing_yet [] command).changes

abbrev pub file_of : Command → File
file_of command = (reads_of nothing_yet [] command).file

-- a plan begins by it, as far as the numbers say, whoever asks
abbrev pub begins_plan : Numbers Extent Extent → Command → Bool
begins_plan n command = (reads_of n [] command).begins

-- whom it makes the user, whoever asks and whatever the store has
abbrev pub becomes_of : Command → Option (List ℕ)
becomes_of command = (reads_of nothing_yet [] command).becomes
