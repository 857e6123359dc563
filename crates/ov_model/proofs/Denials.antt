-- Nothing but a rule denies: no other refusal is that of a rule.
use Rattle.std.proofs.Common.{◌≡◌, ℕ, ◌+◌, Bool, true, false, List, [], ◌∷◌, length, refl, sym, ◌∙◌, ap}
use Rattle.std.specs.Prelude.{◌↔◌, ◌||◌, ◌&&◌, ◌==◌, ◌^◌, nat_le, nat_lt, nat_eq, is_some, codes, Option, Some, None, Result, Ok, Err, not, if◌then◌else◌}
use Rattle.std.specs.Cmp.Lexicographic.{pointwise}
use Rattle.std.specs.List.{list_all, list_any}
use Rattle.std.specs.Option.{option_or}
use Rattle.std.specs.Str.{is_utf8}
use Rattle.csv.specs.Reading.{default_config, records, strip_bom}
use Rattle.ov_value.specs.Naming.{is_name}
use Rattle.ov_value.specs.Rows.{is_null}
use Rattle.ov_value.specs.declared.column.Column.{Column}
use Rattle.ov_value.specs.declared.schema_err.SchemaErr.{SchemaErr}
use Rattle.ov_value.specs.declared.schema_err.SchemaErr.TheVariants as bad
use Rattle.ov_value.specs.declared.value.Value.{Value}
use Rattle.ov_value.specs.Shapes.{Shape, names}
use Rattle.ov_value.specs.Spelling.{row_spelling}
use Rattle.ov_model.specs.Act.{format_one, Session, Deed, does, unless, if_so, with_rows, with_file, rows_refusal, repeated_key, null_row, format_refusal, init_refusal, gives, merge_of, vids_refusal, checkout_deed, records_refusal, fresh_of, commit_rows, schema_with, commit_under, commit_refusal, commit_deed, columns_of, log_deed, drop_deed, optimize_refusal, optimize_deed, layout_deed, generated_reply, generate_by, is_threshold, more_refusal}
use Rattle.ov_model.specs.Book.{Row}
use Rattle.ov_model.specs.Budget.{advise_by, advise_deed, choice, table, within_by, within_deed, within_refusal}
use Rattle.ov_model.specs.declared.reply.BudgetLine.{BudgetLine}
use Rattle.ov_model.specs.Csv.{rows_of, table_of, rows_from, row_refusal, row_in, bad_field, null_key, long_row, onto, unless_refused, unless_spelled, field_value, begins_with_mark}
use Rattle.ov_model.specs.Deed.{changes, table_named, create_refusal, create_user_deed, config_refusal, config_deed, file_of_table, stage_refusal, staged_refusal, with_staged, stage_of, commit_from, staged_by, unstage_refusal, unstage_deed, permitted, deed}
use Rattle.ov_model.specs.Forms.{schema_refusal}
use Rattle.ov_model.specs.Generator.{generated}
use Rattle.ov_model.specs.Merge.{has_key}
use Rattle.ov_model.specs.Moves.{Init, wide}
use Rattle.ov_model.specs.Records.{order_of}
use Rattle.ov_model.specs.Registry.{users_name, users_schema, user_row, is_user, stage_name, stage_schema, is_foreign, last_rows, table_in, table_row, with_row, without_row, change_refusal, number_refusal, change_records, last_alone, version_rows}
use Rattle.ov_model.specs.Steps.{all_moved}
use Rattle.ov_model.specs.Users.{is_run, permit}
use Rattle.ov_model.specs.World.{Dataset, World, is_one, set_named}
use Rattle.ov_model.specs.declared.command.Command.{Command}
use Rattle.ov_model.specs.declared.command.Command.TheVariants as asks
use Rattle.ov_model.specs.declared.refusal.Refusal.{Refusal}
use Rattle.ov_model.specs.declared.refusal.Refusal.TheVariants as no
use Rattle.ov_model.specs.declared.reply.Reply.{Reply}
use Rattle.ov_model.specs.declared.reply.Reply.TheVariants as says

abbrev is_denial : Refusal → Bool
is_denial (no.Denied nth) = true
is_denial _ = false

abbrev denies : Option Refusal → Bool
denies None = false
denies (Some refusal) = is_denial refusal

abbrev Silent : Option Refusal → Type 0
Silent refusal = denies refusal ≡ false

or-silent : (a b : Option Refusal) → Silent a → Silent b → Silent (option_or a b)
or-silent None b first second = second
or-silent (Some refusal) b first second = first

if-silent : (t : Bool) (refusal : Refusal) → is_denial refusal ≡ false → Silent (if_so t refusal)
if-silent true refusal is = is
if-silent false refusal is = refl

choice-silent : (t : Bool) (a b : Option Refusal) → Silent a → Silent b → Silent (if t then a else b)
choice-silent true a b first second = first
choice-silent false a b first second = second

-- ---- the rows of a file

spelled-silent : (value : Option Value) (a b : Option Refusal) → Silent a → Silent b → Silent (unless_spelled value a b)
spelled-silent None a b first second = first
spelled-silent (Some value) a b first second = second

field-silent : (nth : ℕ) (columns : List Column) (fields : List (List ℕ)) → Silent (bad_field nth columns fields)
field-silent nth [] fields = refl
field-silent nth (column ∷ columns) [] = refl
field-silent nth (column ∷ columns) (field ∷ fields) =
    spelled-silent (field_value column.kind field) _ (bad_field nth columns fields) refl (field-silent nth columns fields)

key-silent : (schema : Shape) (nth place : ℕ) (columns : List Column) (row : Row) → Silent (null_key schema nth place columns row)
key-silent schema nth place [] row = refl
key-silent schema nth place (column ∷ columns) [] = refl
key-silent schema nth place (column ∷ columns) (value ∷ values) =
    choice-silent (is_null value && list_any (nat_eq place) schema.key) _ _ refl (key-silent schema nth (place + 1) columns values)

long-silent : (nth : ℕ) (row : Row) → Silent (long_row nth row)
long-silent nth row = choice-silent (nat_lt 65536 (length (row_spelling row).bytes)) (Some (no.LongRow nth)) None refl refl

row-silent : (schema : Shape) (nth : ℕ) (fields : List (List ℕ)) → Silent (row_refusal schema nth fields)
row-silent schema nth fields =
    choice-silent (not (length fields == length schema.columns)) _ _ refl
    (choice-silent (not (list_all is_utf8 fields)) _ _ refl
    (or-silent (bad_field nth schema.columns fields) _ (field-silent nth schema.columns fields)
    (or-silent (null_key schema nth 0 schema.columns (row_in schema.columns fields)) _
    (key-silent schema nth 0 schema.columns (row_in schema.columns fields)) (long-silent nth (row_in schema.columns fields)))))

-- the refusal of rows, where they are refused
abbrev error_of : Result (List Row) Refusal → Option Refusal
error_of (Ok rows) = None
error_of (Err refusal) = Some refusal

onto-silent : (row : Row) (rows : Result (List Row) Refusal) → Silent (error_of rows) → Silent (error_of (onto row rows))
onto-silent row (Ok rows) is = refl
onto-silent row (Err refusal) is = is

refused-silent : (refusal : Option Refusal) (rows : Result (List Row) Refusal) → Silent refusal → Silent (error_of rows) → Silent (error_of (unless_refused refusal rows))
refused-silent None rows first second = second
refused-silent (Some refusal) rows first second = first

from-silent : (schema : Shape) (nth : ℕ) (records : List (List (List ℕ))) → Silent (error_of (rows_from schema nth records))
from-silent schema nth [] = refl
from-silent schema nth (fields ∷ rest) =
    refused-silent (row_refusal schema nth fields) _ (row-silent schema nth fields)
    (onto-silent (row_in schema.columns fields) (rows_from schema (nth + 1) rest) (from-silent schema (nth + 1) rest))

either-silent : (t : Bool) (a b : Result (List Row) Refusal) → Silent (error_of a) → Silent (error_of b) → Silent (error_of (if t then a else b))
either-silent true a b first second = first
either-silent false a b first second = second

table-silent : (schema : Shape) (records : List (List (List ℕ))) → Silent (error_of (table_of schema records))
table-silent schema [] = refl
table-silent schema (header ∷ rest) =
    either-silent (pointwise (pointwise nat_eq) header (names schema.columns)) (rows_from schema 1 rest) _ (from-silent schema 1 rest) refl

file-silent : (schema : Shape) (bytes : List ℕ) → Silent (error_of (rows_of schema bytes))
file-silent schema bytes =
    either-silent (nat_lt 67108864 (length bytes)) _ _ refl
    (either-silent (begins_with_mark (strip_bom bytes)) _ _ refl (table-silent schema (records default_config (strip_bom bytes))))

-- ---- what a command is refused for

vids-silent : (count : ℕ) (before vids : List ℕ) → Silent (vids_refusal count before vids)
vids-silent count before [] = refl
vids-silent count before (vid ∷ vids) =
    choice-silent (vid == 0 || nat_lt count vid) _ _ refl
    (choice-silent (is_one before vid) _ _ refl (vids-silent count (vid ∷ before) vids))

repeats-silent : (schema : Shape) (before : List Row) (nth : ℕ) (rows : List Row) → Silent (repeated_key schema before nth rows)
repeats-silent schema before nth [] = refl
repeats-silent schema before nth (row ∷ rows) =
    choice-silent (has_key schema before row) _ _ refl (repeats-silent schema (row ∷ before) (nth + 1) rows)

format-silent : (row : Option ℕ) (adds : Bool) → Silent (format_refusal row adds)
format-silent (Some nth) adds = refl
format-silent None adds = choice-silent adds _ _ refl refl

rows-silent : (w : World) (schema : Shape) (adds : Bool) (rows : List Row) → Silent (rows_refusal w schema adds rows)
rows-silent w schema adds rows =
    or-silent (if_so (nat_lt 1000000 (length rows)) no.TooManyRows) _ (if-silent (nat_lt 1000000 (length rows)) no.TooManyRows refl)
    (or-silent (repeated_key schema [] 1 rows) _ (repeats-silent schema [] 1 rows)
    (choice-silent (w.format == 1) _ _ (format-silent (null_row 1 rows) adds) refl))

more-silent : (w : World) (cvd : List ℕ) → Silent (more_refusal w cvd)
more-silent w cvd =
    or-silent (if_so (nat_le 1024 (length w.sets)) no.TooManyCvds) (if_so (w.next == 4294967295) (no.NoNumbers cvd))
    (if-silent (nat_le 1024 (length w.sets)) no.TooManyCvds refl) (if-silent (w.next == 4294967295) (no.NoNumbers cvd) refl)

init-silent : (w : World) (cvd : List ℕ) → Silent (init_refusal w cvd)
init-silent w cvd =
    or-silent (if_so (is_some (set_named w cvd)) (no.CvdExists cvd)) (more_refusal w cvd)
    (if-silent (is_some (set_named w cvd)) (no.CvdExists cvd) refl) (more-silent w cvd)

schema-silent : (refusal : SchemaErr) → is_denial (schema_refusal refusal) ≡ false
schema-silent bad.NoColumns = refl
schema-silent bad.TooManyColumns = refl
schema-silent (bad.BadName name) = refl
schema-silent (bad.RepeatedName name) = refl
schema-silent bad.NoKey = refl
schema-silent (bad.UnknownKey name) = refl
schema-silent (bad.RepeatedKey name) = refl
schema-silent bad.Memory = refl

-- ---- replies

abbrev reply_denies : Reply → Bool
reply_denies (says.Refused refusal) = is_denial refusal
reply_denies _ = false

abbrev Undenied : Deed → Type 0
Undenied d = reply_denies d.reply ≡ false

unless-undenied : (s : Session) (refusal : Option Refusal) (d : Deed) → Silent refusal → Undenied d → Undenied (unless s refusal d)
unless-undenied s None d is more = more
unless-undenied s (Some refusal) d is more = is

rows-undenied : (w : World) (s : Session) (schema : Shape) (adds : Bool) (next : List Row → Deed) (r : Result (List Row) Refusal) → Silent (error_of r) → ((rows : List Row) → Undenied (next rows)) → Undenied (with_rows w s schema adds next r)
rows-undenied w s schema adds next (Err refusal) is more = is
rows-undenied w s schema adds next (Ok rows) is more = unless-undenied s (rows_refusal w schema adds rows) _ (rows-silent w schema adds rows) (more _)

file-undenied : (w : World) (s : Session) (schema : Shape) (adds : Bool) (name : List ℕ) (next : List Row → Deed) (bytes : Option (List ℕ)) → ((rows : List Row) → Undenied (next rows)) → Undenied (with_file w s schema adds name next bytes)
file-undenied w s schema adds name next None more = refl
file-undenied w s schema adds name next (Some bytes) more = rows-undenied w s schema adds next (rows_of schema bytes) (file-silent schema bytes) more

gives-undenied : (s : Session) (d : Dataset) (vids : List ℕ) (file : Option (List ℕ)) → Undenied (gives s d.cvd (merge_of d.cvd vids) file)
gives-undenied s d vids None = refl
gives-undenied s d vids (Some file) = refl

checkout-undenied : (s : Session) (vids : List ℕ) (file : Option (List ℕ)) (name : List ℕ) (d : Option Dataset) → Undenied (checkout_deed s vids file name d)
checkout-undenied s vids file name None = refl
checkout-undenied s vids file name (Some d) =
    unless-undenied s (vids_refusal (length d.cvd.versions) [] vids) _ (vids-silent (length d.cvd.versions) [] vids) (gives-undenied s d vids file)

records-silent : (d : Dataset) (fresh : ℕ) → Silent (records_refusal d fresh)
records-silent d fresh = if-silent (nat_lt (2 ^ 31) (length (order_of d.cvd.versions) + fresh)) (no.TooManyRecords d.cvd.name) refl

under-undenied : (w : World) (s : Session) (d : Dataset) (parents message : List ℕ) (added : List Column) (file : List ℕ) (schema : Result Shape SchemaErr) → Undenied (commit_under w s d parents message added file schema)
under-undenied w s d parents message added file (Err refusal) = schema-silent refusal
under-undenied w s d parents message added file (Ok schema) =
    file-undenied w s schema (not (length added == 0)) file (commit_rows s d parents message added) (s.files file)
    (λ rows. unless-undenied s (records_refusal (wide added d) (fresh_of (wide added d) parents message rows)) _
    (records-silent (wide added d) (fresh_of (wide added d) parents message rows)) refl)

commit-undenied : (w : World) (s : Session) (name parents message : List ℕ) (added : List Column) (file : List ℕ) (d : Option Dataset) → Undenied (commit_deed w s name parents message added file d)
commit-undenied w s name parents message added file None = refl
commit-undenied w s name parents message added file (Some d) =
    unless-undenied s (commit_refusal d parents) _
    (or-silent (vids_refusal (length d.cvd.versions) [] parents) _ (vids-silent (length d.cvd.versions) [] parents) (if-silent (nat_le 65535 (length d.cvd.versions)) (no.TooManyVersions d.cvd.name) refl))
    (under-undenied w s d parents message added file (schema_with d.cvd.schema added))

log-undenied : (s : Session) (name : List ℕ) (d : Option Dataset) → Undenied (log_deed s name d)
log-undenied s name None = refl
log-undenied s name (Some d) = refl

drop-undenied : (s : Session) (name : List ℕ) (d : Option Dataset) → Undenied (drop_deed s name d)
drop-undenied s name None = refl
drop-undenied s name (Some d) = refl

threshold-silent : (d : Dataset) (p q : ℕ) → Silent (optimize_refusal d p q)
threshold-silent d p q =
    let numbers : Option Refusal = if_so (nat_lt 4294000000 d.next_part) (no.NoNumbers d.cvd.name)
    in or-silent (if_so (not (is_threshold p q)) no.BadThreshold) (option_or (if_so (is_some d.plan) (no.Migrating d.cvd.name)) numbers)
    (if-silent (not (is_threshold p q)) no.BadThreshold refl)
    (or-silent (if_so (is_some d.plan) (no.Migrating d.cvd.name)) numbers (if-silent (is_some d.plan) (no.Migrating d.cvd.name) refl)
    (if-silent (nat_lt 4294000000 d.next_part) (no.NoNumbers d.cvd.name) refl))

optimize-undenied : (s : Session) (name : List ℕ) (p q : ℕ) (d : Option Dataset) → Undenied (optimize_deed s name p q d)
optimize-undenied s name p q None = refl
optimize-undenied s name p q (Some d) =
    unless-undenied s (optimize_refusal d p q) _
    (threshold-silent d p q) refl

layout-undenied : (s : Session) (name : List ℕ) (d : Option Dataset) → Undenied (layout_deed s name d)
layout-undenied s name None = refl
layout-undenied s name (Some d) = refl

generated-undenied : (name : List ℕ) (d : Option Dataset) → reply_denies (generated_reply name d) ≡ false
generated-undenied name None = refl
generated-undenied name (Some d) = refl

-- ---- the registry

number-silent : (w : World) (name : List ℕ) (d : Option Dataset) → Silent (number_refusal w name d)
number-silent w name None = more-silent w name
number-silent w name (Some d) = if-silent (nat_le 65535 (length d.cvd.versions)) (no.TooManyVersions name) refl

change-records-silent : (rows : List Row) (d : Option Dataset) → Silent (change_records rows d)
change-records-silent rows None = refl
change-records-silent rows (Some d) = records-silent d (fresh_of d (last_alone d) (codes "stage") rows)

change-silent : (w : World) (name : List ℕ) (rows : List Row) (d : Option Dataset) → Silent (change_refusal w name rows d)
change-silent w name rows d =
    or-silent (number_refusal w name d) _ (number-silent w name d)
    (or-silent (if_so (nat_lt 1000000 (length rows)) no.TooManyRows) _ (if-silent (nat_lt 1000000 (length rows)) no.TooManyRows refl)
    (or-silent (format_one w.format false rows) (change_records rows d)
    (choice-silent (w.format == 1) _ _ (format-silent (null_row 1 rows) false) refl) (change-records-silent rows d)))

changes-undenied : (w : World) (s t : Session) (name : List ℕ) (schema : Shape) (rows : List Row) (reply : Reply) (d : Option Dataset) → reply_denies reply ≡ false → Undenied (changes w s t name schema rows reply d)
changes-undenied w s t name schema rows reply d is =
    unless-undenied s (change_refusal w name (version_rows schema rows) d) _ (change-silent w name (version_rows schema rows) d) is

foreign-silent : (schema : Shape) (d : Option Dataset) → Silent (if_so (is_foreign schema d) no.ForeignRegistry)
foreign-silent schema d = if-silent (is_foreign schema d) no.ForeignRegistry refl

create-undenied : (w : World) (s : Session) (name : List ℕ) (users : Option Dataset) → Undenied (create_user_deed w s name users)
create-undenied w s name users =
    unless-undenied s (create_refusal name users) _
    (or-silent (if_so (not (is_name name)) (no.BadName name)) _ (if-silent (not (is_name name)) (no.BadName name) refl)
    (or-silent (if_so (is_foreign users_schema users) no.ForeignRegistry) _ (foreign-silent users_schema users)
    (if-silent (is_user (last_rows users) name) (no.UserExists name) refl)))
    (changes-undenied w s s users_name users_schema (with_row (last_rows users) (user_row name)) (says.User name) users refl)

config-undenied : (s : Session) (name : List ℕ) (users : Option Dataset) → Undenied (config_deed s name users)
config-undenied s name users =
    unless-undenied s (config_refusal name users) _
    (or-silent (if_so (is_foreign users_schema users) no.ForeignRegistry) _ (foreign-silent users_schema users) (if-silent (not (is_name name && is_user (last_rows users) name)) (no.NoUser name) refl)) refl

stage-of-undenied : (w : World) (s : Session) (cvd table vids : List ℕ) (stage d : Option Dataset) → Undenied (stage_of w s cvd table vids stage d)
stage-of-undenied w s cvd table vids stage None = refl
stage-of-undenied w s cvd table vids stage (Some d) =
    unless-undenied s (staged_refusal s table vids d stage) _
    (or-silent (vids_refusal (length d.cvd.versions) [] vids) _ (vids-silent (length d.cvd.versions) [] vids)
    (if-silent (is_some (table_in (last_rows stage) s.user table)) (no.TableStaged (table_named s.user table)) refl))
    (changes-undenied w s (with_staged s table vids d) stage_name stage_schema
    (with_row (last_rows stage) (table_row s.user table d.cvd.name d.cvd.number vids))
    (says.ToFile d.cvd.name (length (merge_of d.cvd vids)) (file_of_table s.user table)) stage refl)

stage-silent : (table vids : List ℕ) (stage : Option Dataset) → Silent (stage_refusal table vids stage)
stage-silent table vids stage =
    or-silent (if_so (not (is_name table)) (no.BadName table)) _ (if-silent (not (is_name table)) (no.BadName table) refl)
    (or-silent (if_so (is_foreign stage_schema stage) no.ForeignRegistry) _ (foreign-silent stage_schema stage)
    (if-silent (nat_lt 1000 (length vids)) no.TooManyListed refl))

from-undenied : (w : World) (s : Session) (user table message : List ℕ) (from : Option (Dataset × List ℕ)) → Undenied (commit_from w s user table message from)
from-undenied w s user table message None = refl
from-undenied w s user table message (Some from) = commit-undenied w s from.0.cvd.name from.1 message [] (file_of_table user table) (Some from.0)

unstage-undenied : (w : World) (s : Session) (user table : List ℕ) (stage : Option Dataset) → Undenied (unstage_deed w s user table stage)
unstage-undenied w s user table stage =
    unless-undenied s (unstage_refusal user table stage) _
    (or-silent (if_so (is_foreign stage_schema stage) no.ForeignRegistry) _ (foreign-silent stage_schema stage)
    (if-silent (not (is_some (table_in (last_rows stage) user table))) (no.NoTable (table_named user table)) refl))
    (changes-undenied w s s stage_name stage_schema (without_row (last_rows stage) user table) (says.Unstaged user table) stage refl)

within-undenied : (s : Session) (name : List ℕ) (budget : ℕ) (d : Option Dataset) → Undenied (within_deed s name budget d)
within-undenied s name budget None = refl
within-undenied s name budget (Some d) =
    unless-undenied s (within_refusal d) _
    (or-silent (if_so (is_some d.plan) (no.Migrating d.cvd.name)) _ (if-silent (is_some d.plan) (no.Migrating d.cvd.name) refl)
    (if-silent (nat_lt 4294000000 d.next_part) (no.NoNumbers d.cvd.name) refl))
    (by (choice budget (table d)))
  where
    by : (found : Option (ℕ × BudgetLine)) → Undenied (within_by s d budget found)
    by None = refl
    by (Some best) = refl

advise-undenied : (s : Session) (name : List ℕ) (budget a b : ℕ) (d : Option Dataset) → Undenied (advise_deed s name budget a b d)
advise-undenied s name budget a b None = refl
advise-undenied s name budget a b (Some d) =
    unless-undenied s (if_so (not (is_threshold b a)) no.BadThreshold) _ (if-silent (not (is_threshold b a)) no.BadThreshold refl)
    (by (choice budget (table d)))
  where
    by : (found : Option (ℕ × BudgetLine)) → Undenied (advise_by s d budget a b found)
    by None = refl
    by (Some best) = refl

-- ---- all commands

permitted-undenied : (w : World) (s : Session) (command : Command) → is_run command ≡ false → Undenied (permitted w s command)
permitted-undenied w s (asks.Init cvd schema file) other =
    unless-undenied s (init_refusal w cvd) _ (init-silent w cvd)
    (file-undenied w s schema false file (λ rows. does s (Init cvd schema rows) (says.Init cvd (length rows))) (s.files file) (λ rows. refl))
permitted-undenied w s (asks.Checkout cvd vids file None) other = checkout-undenied s vids file cvd (set_named w cvd)
permitted-undenied w s (asks.Checkout cvd vids file (Some table)) other =
    unless-undenied s (stage_refusal table vids (set_named w stage_name)) _ (stage-silent table vids (set_named w stage_name))
    (stage-of-undenied w s cvd table vids (set_named w stage_name) (set_named w cvd))
permitted-undenied w s (asks.Commit cvd vids file message added) other = commit-undenied w s cvd vids message (columns_of added) file (set_named w cvd)
permitted-undenied w s (asks.CommitStaged user table message) other =
    unless-undenied s (if_so (is_foreign stage_schema (set_named w stage_name)) no.ForeignRegistry) _ (foreign-silent stage_schema (set_named w stage_name))
    (from-undenied w s user table message (staged_by w (table_in (last_rows (set_named w stage_name)) user table)))
permitted-undenied w s (asks.Run text) other = absurd cc
permitted-undenied w s (asks.Optimize cvd p q) other = optimize-undenied s cvd p q (set_named w cvd)
permitted-undenied w s (asks.OptimizeWithin cvd budget) other = within-undenied s cvd budget (set_named w cvd)
permitted-undenied w s (asks.Advise cvd budget a b) other = advise-undenied s cvd budget a b (set_named w cvd)
permitted-undenied w s (asks.Migrate count) other = refl
permitted-undenied w s (asks.Layout cvd) other = layout-undenied s cvd (set_named w cvd)
permitted-undenied w s (asks.Log cvd) other = log-undenied s cvd (set_named w cvd)
permitted-undenied w s asks.Ls other = refl
permitted-undenied w s (asks.DropCvd cvd) other = drop-undenied s cvd (set_named w cvd)
permitted-undenied w s asks.Checkpoint other = refl
permitted-undenied w s (asks.Generate cvd seed rows versions) other =
    unless-undenied s (init_refusal w cvd) (generate_by w s cvd (generated w.next cvd seed rows versions)) (init-silent w cvd)
    (generated-undenied cvd (set_named (all_moved (generated w.next cvd seed rows versions) w) cvd))
permitted-undenied w s (asks.CreateUser name) other = create-undenied w s name (set_named w users_name)
permitted-undenied w s (asks.Config name) other = config-undenied s name (set_named w users_name)
permitted-undenied w s asks.Whoami other = refl
permitted-undenied w s (asks.Unstage user table) other = unstage-undenied w s user table (set_named w stage_name)
permitted-undenied w s asks.Tables other =
    unless-undenied s (if_so (is_foreign stage_schema (set_named w stage_name)) no.ForeignRegistry) _ (foreign-silent stage_schema (set_named w stage_name)) refl

some-denies : false ≡ true → ⊥
some-denies e = cc

denying : (d : Deed) (nth : ℕ) → Undenied d → d.reply ≡ says.Refused (no.Denied nth) → ⊥
denying d nth is e = some-denies (sym is ∙ ap reply_denies e)

exactly-by : (s : Session) (refusal : Option Refusal) (d : Deed) (nth : ℕ) → Undenied d → ((unless s refusal d).reply ≡ says.Refused (no.Denied nth)) ↔ (refusal ≡ Some (no.Denied nth))
exactly-by s None d nth is = (λ e. absurd (denying d nth is e), λ e. absurd cc)
exactly-by s (Some refusal) d nth is = (λ e. cc, λ e. cc)

pub denied-exactly : (w : World) (s : Session) (command : Command) (nth : ℕ) → is_run command ≡ false → ((deed w s command).reply ≡ says.Refused (no.Denied nth)) ↔ (permit s.user command ≡ Some (no.Denied nth))
denied-exactly w s command nth other = exactly-by s (permit s.user command) (permitted w s command) nth (permitted-undenied w s command other)
