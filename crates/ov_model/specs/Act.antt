-- What the commands mean over a World, each for itself: its first refusal in its order, or else its moves, its reply, and the
-- files and the user after it.
use Rattle.std.specs.Prelude.{ℕ, ◌&&◌, ◌+◌, ◌^◌, Bool, true, false, not, ◌||◌, ◌==◌, nat_le, nat_lt, if◌then◌else◌, List, [], ◌∷◌, ◌++◌, length, map, Option, Some, None, Result, Ok, Err, is_some}
use Rattle.std.specs.Str.{bytes_eq}
use Rattle.std.specs.List.{list_any, sum}
use Rattle.std.specs.Option.{option_or}
use Rattle.ov_graph.specs.Splits as splits
use Rattle.ov_graph.specs.Trees.{all_records, all_members}
use Rattle.ov_value.specs.declared.column.Column.{Column}
use Rattle.ov_value.specs.declared.schema_err.SchemaErr.{SchemaErr}
use Rattle.ov_value.specs.Making.{widened}
use Rattle.ov_value.specs.Rows.{is_null}
use Rattle.ov_value.specs.Shapes.{Shape}
use Rattle.ov_model.specs.Book.{Row, Version, Cvd}
use Rattle.ov_model.specs.Csv.{rows_of, text_of}
use Rattle.ov_model.specs.Forms.{schema_refusal}
use Rattle.ov_model.specs.Merge.{has_key, in_key_order, merged}
use Rattle.ov_model.specs.Moves.{Move, Init, Commit, BeginPlan, Drop, Checkpoint, version_of, wide}
use Rattle.ov_model.specs.Plans.{nodes_of_set, parts_at, depth_at, planned, current, missing_of, plan_steps, sizes_of}
use Rattle.ov_model.specs.Steps.{all_moved, steps_left}
use Rattle.ov_model.specs.Records.{recs, records_of, fresh_in, order_of, rows_at}
use Rattle.ov_model.specs.World.{Part, Plan, Dataset, World, held, stored, cost, copied_records, set_named, is_one}
use Rattle.ov_model.specs.declared.refusal.Refusal.{Refusal}
use Rattle.ov_model.specs.declared.refusal.Refusal.TheVariants as no
use Rattle.ov_model.specs.declared.reply.CvdLine.{CvdLine}
use Rattle.ov_model.specs.declared.reply.LogLine.{LogLine}
use Rattle.ov_model.specs.declared.reply.PartLine.{PartLine}
use Rattle.ov_model.specs.declared.reply.PlanLine.{PlanLine}
use Rattle.ov_model.specs.declared.reply.Reply.{Reply}
use Rattle.ov_model.specs.declared.reply.Reply.TheVariants as says

-- what the file of each name has; None where there is no such file
abbrev pub Files : Type 0
Files = List ℕ → Option (List ℕ)

abbrev pub put : Files → List ℕ → List ℕ → Files
put files name bytes = λ other. if bytes_eq other name then Some bytes else files other

-- what goes from line to line beside the World: the files, and the name of the user
pub record Session : Type 0 where
  pub files : Files
  pub user : List ℕ

-- The moves in their order, the reply once all of them took place, whether a refusal for room tells the steps taken and left,
-- and the session then.
pub record Deed : Type 0 where
  pub moves : List Move
  pub reply : Reply
  pub counts_steps : Bool
  pub session : Session

abbrev pub tells : Session → Reply → Deed
tells s reply = record { moves = []; reply = reply; counts_steps = false; session = s }

abbrev pub refuses : Session → Refusal → Deed
refuses s refusal = tells s (says.Refused refusal)

abbrev pub does : Session → Move → Reply → Deed
does s move reply = record { moves = move ∷ []; reply = reply; counts_steps = false; session = s }

-- the refusal, or else what comes
abbrev pub unless : Session → Option Refusal → Deed → Deed
unless s None deed = deed
unless s (Some refusal) deed = refuses s refusal

abbrev pub if_so : Bool → Refusal → Option Refusal
if_so refused refusal = if refused then Some refusal else None

-- Versions as they are listed: each is there, and stands once. `before` are those before them.
abbrev pub vids_refusal : ℕ → List ℕ → List ℕ → Option Refusal
vids_refusal count before [] = None
vids_refusal count before (vid ∷ vids) =
    if vid == 0 || nat_lt count vid then Some (no.NoVersion vid)
    else if is_one before vid then Some (no.RepeatedVersion vid)
    else vids_refusal count (vid ∷ before) vids

-- the first row, numbered from `nth` on, that has the key of an earlier one
abbrev pub repeated_key : Shape → List Row → ℕ → List Row → Option Refusal
repeated_key schema before nth [] = None
repeated_key schema before nth (row ∷ rows) =
    if has_key schema before row then Some (no.DuplicateKey nth) else repeated_key schema (row ∷ before) (nth + 1) rows

-- the first row, numbered from `nth` on, that has NULL
abbrev pub null_row : ℕ → List Row → Option ℕ
null_row nth [] = None
null_row nth (row ∷ rows) = if list_any is_null row then Some nth else null_row (nth + 1) rows

-- in a store of format 1 there is no NULL, and no column is added
abbrev pub format_refusal : Option ℕ → Bool → Option Refusal
format_refusal (Some nth) adds = Some (no.FormatOne nth)
format_refusal None adds = if adds then Some (no.FormatOne 0) else None

abbrev pub format_one : ℕ → Bool → List Row → Option Refusal
format_one format adds rows = if format == 1 then format_refusal (null_row 1 rows) adds else None

-- the rows of a file as those of a version: not too many, no key twice, and no NULL in a store of format 1
abbrev pub rows_refusal : World → Shape → Bool → List Row → Option Refusal
rows_refusal w schema adds rows =
    option_or (if_so (nat_lt 1000000 (length rows)) no.TooManyRows)
    (option_or (repeated_key schema [] 1 rows) (format_one w.format adds rows))

-- from the file's rows, or its refusal
abbrev pub with_rows : World → Session → Shape → Bool → (List Row → Deed) → Result (List Row) Refusal → Deed
with_rows w s schema adds next (Err refusal) = refuses s refusal
with_rows w s schema adds next (Ok rows) = unless s (rows_refusal w schema adds rows) (next (in_key_order schema rows))

-- from the file, where it is there
abbrev pub with_file : World → Session → Shape → Bool → List ℕ → (List Row → Deed) → Option (List ℕ) → Deed
with_file w s schema adds name next None = refuses s (no.NoFile name)
with_file w s schema adds name next (Some bytes) = with_rows w s schema adds next (rows_of schema bytes)

abbrev pub from_file : World → Session → Shape → Bool → List ℕ → (List Row → Deed) → Deed
from_file w s schema adds name next = with_file w s schema adds name next (s.files name)

-- a dataset more: there are fewer than 1,024, and there is a number for it
abbrev pub more_refusal : World → List ℕ → Option Refusal
more_refusal w cvd = option_or (if_so (nat_le 1024 (length w.sets)) no.TooManyCvds) (if_so (w.next == 4294967295) (no.NoNumbers cvd))

-- Init: a dataset more, where there is none of its name.
abbrev pub init_refusal : World → List ℕ → Option Refusal
init_refusal w cvd = option_or (if_so (is_some (set_named w cvd)) (no.CvdExists cvd)) (more_refusal w cvd)

abbrev pub init_deed : World → Session → List ℕ → Shape → List ℕ → Deed
init_deed w s cvd schema file =
    unless s (init_refusal w cvd)
    (from_file w s schema false file (λ rows. does s (Init cvd schema rows) (says.Init cvd (length rows))))

-- Checkout: the merge of the listed versions as the text of a file, printed or put into a file.
abbrev pub rows_listed : List Version → List ℕ → List (List Row)
rows_listed versions vids = map (rows_at versions) vids

abbrev pub merge_of : Cvd → List ℕ → List Row
merge_of cvd vids = merged cvd.schema (rows_listed cvd.versions vids)

abbrev pub gives : Session → Cvd → List Row → Option (List ℕ) → Deed
gives s cvd rows None = tells s (says.Csv (text_of cvd.schema rows))
gives s cvd rows (Some file) =
    tells (record s { files = put s.files file (text_of cvd.schema rows) }) (says.ToFile cvd.name (length rows) file)

abbrev pub checkout_deed : Session → List ℕ → Option (List ℕ) → List ℕ → Option Dataset → Deed
checkout_deed s vids file name None = refuses s (no.NoCvd name)
checkout_deed s vids file name (Some d) =
    unless s (vids_refusal (length d.cvd.versions) [] vids) (gives s d.cvd (merge_of d.cvd vids) file)

-- Commit: a version more. `fresh` are its records that no parent gave it.
abbrev pub columns_of : Option (List Column) → List Column
columns_of None = []
columns_of (Some added) = added

abbrev pub fresh_of : Dataset → List ℕ → List ℕ → List Row → ℕ
fresh_of d parents message rows =
    length (fresh_in (records_of (version_of parents message rows) (recs d.cvd.versions [])) (length d.cvd.versions + 1))

abbrev pub records_refusal : Dataset → ℕ → Option Refusal
records_refusal d fresh = if_so (nat_lt (2 ^ 31) (length (order_of d.cvd.versions) + fresh)) (no.TooManyRecords d.cvd.name)

-- over the dataset as it is with the added columns
abbrev pub commit_rows : Session → Dataset → List ℕ → List ℕ → List Column → List Row → Deed
commit_rows s d parents message added rows =
    unless s (records_refusal (wide added d) (fresh_of (wide added d) parents message rows))
    (does s (Commit d.cvd.number parents message added rows)
    (says.Commit d.cvd.name (length d.cvd.versions + 1) (length rows) (fresh_of (wide added d) parents message rows)))

-- the schema with the added columns, where they are accepted
abbrev pub schema_with : Shape → List Column → Result Shape SchemaErr
schema_with schema [] = Ok schema
schema_with schema (column ∷ added) = widened schema (column ∷ added)

abbrev pub commit_under : World → Session → Dataset → List ℕ → List ℕ → List Column → List ℕ → Result Shape SchemaErr → Deed
commit_under w s d parents message added file (Err refusal) = refuses s (schema_refusal refusal)
commit_under w s d parents message added file (Ok schema) =
    from_file w s schema (not (length added == 0)) file (commit_rows s d parents message added)

abbrev pub commit_refusal : Dataset → List ℕ → Option Refusal
commit_refusal d parents =
    option_or (vids_refusal (length d.cvd.versions) [] parents)
    (if_so (nat_le 65535 (length d.cvd.versions)) (no.TooManyVersions d.cvd.name))

abbrev pub commit_deed : World → Session → List ℕ → List ℕ → List ℕ → List Column → List ℕ → Option Dataset → Deed
commit_deed w s name parents message added file None = refuses s (no.NoCvd name)
commit_deed w s name parents message added file (Some d) =
    unless s (commit_refusal d parents)
    (commit_under w s d parents message added file (schema_with d.cvd.schema added))

-- Log: each version with its rows, its fresh records, its parents and its message.
abbrev pub log_lines : List Version → List Version → List LogLine
log_lines before [] = []
log_lines before (v ∷ vs) =
    record {
      vid = length before + 1;
      rows = length v.rows;
      fresh = length (fresh_in (records_of v (recs before [])) (length before + 1));
      parents = v.parents;
      message = v.message;
    } ∷ log_lines (before ++ v ∷ []) vs

abbrev pub log_deed : Session → List ℕ → Option Dataset → Deed
log_deed s name None = refuses s (no.NoCvd name)
log_deed s name (Some d) = tells s (says.Log (log_lines [] d.cvd.versions))

-- Ls: each dataset with its versions and its distinct records.
abbrev pub ls_line : Dataset → CvdLine
ls_line d = record { name = d.cvd.name; versions = length d.cvd.versions; records = length (order_of d.cvd.versions) }

abbrev pub drop_deed : Session → List ℕ → Option Dataset → Deed
drop_deed s name None = refuses s (no.NoCvd name)
drop_deed s name (Some d) = does s (Drop d.cvd.number) (says.Dropped name)

-- Optimize: a plan of the split at p / q. Its reply tells what will stand when it is done.
abbrev pub is_threshold : ℕ → ℕ → Bool
is_threshold p q = nat_le 1 p && (nat_le p q && nat_le q 1000000)

abbrev pub optimize_refusal : Dataset → ℕ → ℕ → Option Refusal
optimize_refusal d p q =
    option_or (if_so (not (is_threshold p q)) no.BadThreshold)
    (option_or (if_so (is_some d.plan) (no.Migrating d.cvd.name)) (if_so (nat_lt 4294000000 d.next_part) (no.NoNumbers d.cvd.name)))

abbrev pub optimized : Dataset → ℕ → ℕ → List (List ℕ) → Reply
optimized d p q parts =
    says.Optimize (depth_at d p q) (length parts) (splits.stored (sizes_of d parts))
    (all_records (nodes_of_set d)) (all_members (nodes_of_set d))
    (splits.cost (sizes_of d parts)) (plan_steps (planned p q d))

abbrev pub optimize_deed : Session → List ℕ → ℕ → ℕ → Option Dataset → Deed
optimize_deed s name p q None = refuses s (no.NoCvd name)
optimize_deed s name p q (Some d) =
    unless s (optimize_refusal d p q) (does s (BeginPlan d.cvd.number p q) (optimized d p q (parts_at d p q)))

-- Migrate: steps until so many are taken or no plan runs.
abbrev pub migrate_by : World → Session → List Move → Deed
migrate_by w s moves = record {
  moves = moves;
  reply = says.Migrate (length moves) (steps_left (all_moved moves w));
  counts_steps = true;
  session = s;
}

-- Layout: the partitions, the running plan, and what is stored and what checkouts read.
abbrev pub part_shown : Part → PartLine
part_shown part = record { id = part.id; records = length (held part); versions = part.versions }

abbrev pub plan_shown : Dataset → Option Plan → Option PlanLine
plan_shown d None = None
plan_shown d (Some plan) = Some (record {
  p = plan.p;
  q = plan.q;
  target = plan.at + 1;
  targets = length plan.targets;
  copied = copied_records d.plan;
  size = length (missing_of d (current plan) []);
  steps = plan_steps d;
})

abbrev pub layout_deed : Session → List ℕ → Option Dataset → Deed
layout_deed s name None = refuses s (no.NoCvd name)
layout_deed s name (Some d) = tells s (says.Layout (map part_shown d.parts) (plan_shown d d.plan) (stored d) (cost d))

-- Checkpoint.
abbrev pub checkpoint_deed : World → Session → Deed
checkpoint_deed w s = does s Checkpoint (says.Checkpoint (length w.sets))

-- Generate: an Init and Commits. The reply is of the dataset that they make.
abbrev pub members_of : List Version → ℕ
members_of versions = sum (map (λ v. length v.rows) versions)

abbrev pub generated_reply : List ℕ → Option Dataset → Reply
generated_reply name None = says.Refused (no.NoCvd name)
generated_reply name (Some d) = says.Generate name (length d.cvd.versions) (length (order_of d.cvd.versions)) (members_of d.cvd.versions)

abbrev pub generate_by : World → Session → List ℕ → List Move → Deed
generate_by w s name moves = record {
  moves = moves;
  reply = generated_reply name (set_named (all_moved moves w) name);
  counts_steps = false;
  session = s;
}
