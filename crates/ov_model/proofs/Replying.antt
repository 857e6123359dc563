-- No reply is empty.
use Rattle.std.proofs.Common.{◌≡◌, ◌<◌, ◌+◌, ℕ, zero, suc, Bool, true, false, List, [], ◌∷◌, ◌++◌, length, filter, refl, subst, arith}
use Rattle.std.specs.Prelude.{◌≢◌, Option, Some, None, Result, Ok, Err, if◌then◌else◌, not, nat_lt, ◌==◌}
use Rattle.std.specs.List.{concat}
use Rattle.std.proofs.lemmas.List.{length-append}
use Rattle.csv.specs.Writing.{default_writer, row_text, row_body, is_blank}
use Rattle.ov_value.specs.declared.column.Column.{Column}
use Rattle.ov_value.specs.declared.schema_err.SchemaErr.{SchemaErr}
use Rattle.ov_value.specs.Shapes.{Shape, names}
use Rattle.ov_model.specs.Act.{Session, Deed, does, refuses, is_threshold, unless, if_so, with_rows, with_file, rows_refusal, init_refusal, gives, merge_of, vids_refusal, checkout_deed, records_refusal, fresh_of, commit_rows, schema_with, commit_under, commit_refusal, commit_deed, columns_of, log_deed, log_lines, drop_deed, optimize_refusal, optimize_deed, layout_deed, generated_reply, generate_by}
use Rattle.ov_model.specs.Deed.{changes, create_refusal, create_user_deed, config_refusal, config_deed, file_of_table, stage_refusal, staged_refusal, with_staged, stage_of, commit_from, staged_by, unstage_refusal, unstage_deed, permitted, deed}
use Rattle.ov_model.specs.Asking.{answered, name_read, query_by, query_refusal, run_deed}
use Rattle.ov_model.specs.Book.{Row, Version, Cvd}
use Rattle.ov_model.specs.Budget.{advise_by, advise_deed, choice, table, within_by, within_deed, within_refusal}
use Rattle.ov_model.specs.Joins.{join_answer, join_by, join_kinds, join_over, joined_rows, side_of, told}
use Rattle.ov_model.specs.Kinds.{kinds}
use Rattle.ov_model.specs.QueryTexts.{Asked, AsksJoin, AsksQuery, BadByte, NoQuery, asked_of}
use Rattle.ov_model.specs.declared.query.JoinQuery.{JoinQuery}
use Rattle.ov_model.specs.declared.query.Query.{Query}
use Rattle.ov_model.specs.declared.reply.BudgetLine.{BudgetLine}
use Rattle.ov_value.specs.declared.column.Kind.{Kind}
use Rattle.ov_model.specs.Course.{Item, Makes, Says, Room, Enough, NoRun, Full, Space, first, rest, Served, SaysSome, after, replied, attempt, attempts, try_step, step_by, steps, steps_then, and_steps, line_served, served, course}
use Rattle.ov_model.specs.Csv.{text_of, rows_of}
use Rattle.ov_model.specs.Forms.{Form}
use Rattle.ov_model.specs.Line.{Line, Comment, Asks, Refused, line_of}
use Rattle.ov_model.specs.Plans.{planned, copied_more, flipped, flipped_by}
use Rattle.ov_model.specs.Moves.{Move, Init, Commit, BeginPlan, Copy, Flip, Drop, Checkpoint, moved, change, numbered, committed, with_version, version_of, wide}
use Rattle.ov_model.specs.Registry.{users_name, users_schema, stage_name, stage_schema, is_foreign, last_rows, with_row, user_row, table_row, table_in, without_row, change_refusal, version_rows}
use Rattle.ov_model.specs.Replies.{line, reply_text, has_text, log_line, budget_lines}
use Rattle.ov_model.specs.Generator.{generated}
use Rattle.ov_model.specs.Steps.{next_step, all_moved}
use Rattle.ov_model.specs.Users.{permit, permit_names}
use Rattle.ov_model.specs.World.{Plan, Dataset, World, AllBegun, cvd_in, set_named, first_set, named}
use Rattle.ov_model.specs.declared.command.Command.{Command}
use Rattle.ov_model.specs.declared.command.Command.TheVariants as asks
use Rattle.ov_model.specs.declared.refusal.Refusal.{Refusal}
use Rattle.ov_model.specs.declared.refusal.Refusal.TheVariants as no
use Rattle.ov_model.specs.declared.reply.Reply.{Reply}
use Rattle.ov_model.specs.declared.reply.Reply.TheVariants as says

the_some : {X : Type 0} (x y : X) → Some x ≡ Some y → x ≡ y
the_some x y e = cc

right_some : (xs ys : List ℕ) → ys ≢ [] → xs ++ ys ≢ []
right_some [] ys some e = some e
right_some (x ∷ xs) ys some e = cc

left_some : (xs ys : List ℕ) → xs ≢ [] → xs ++ ys ≢ []
left_some [] ys some e = some refl
left_some (x ∷ xs) ys some e = cc

one_some : (x : ℕ) (xs : List ℕ) → x ∷ xs ≢ []
one_some x xs e = cc

line_some : (texts : List (List ℕ)) → line texts ≢ []
unfolding line
line_some texts = right_some (concat texts) (10 ∷ []) (one_some 10 [])

pub text_some : (r : Reply) → has_text r ≡ true → reply_text r ≢ []
text_some (says.Init cvd rows) e = line_some _
text_some (says.Csv []) e = cc
text_some (says.Csv (b ∷ bs)) e = one_some b bs
text_some (says.ToFile cvd rows file) e = line_some _
text_some (says.Commit cvd vid rows fresh) e = line_some _
text_some (says.Answer text rows) e = right_some text _ (line_some _)
text_some (says.Optimize depth partitions stored records members cost steps) e = line_some _
text_some (says.Within lines chosen depth partitions stored records members cost steps) e = right_some (budget_lines 1 lines) _ (left_some _ _ (line_some _))
text_some (says.Advise cost best optimize) e = line_some _
text_some (says.Migrate taken left) e = line_some _
text_some (says.Layout parts plan stored cost) e = right_some _ _ (right_some _ _ (line_some _))
text_some (says.Log []) e = cc
text_some (says.Log (v ∷ vs)) e = left_some (log_line v) _ (line_some _)
text_some (says.Ls cvds) e = right_some _ _ (line_some _)
text_some (says.Dropped cvd) e = line_some _
text_some (says.Checkpoint datasets) e = line_some _
text_some (says.Generate cvd versions records members) e = line_some _
text_some (says.User name) e = line_some _
text_some (says.Whoami name) e = line_some _
text_some (says.Unstaged user table) e = line_some _
text_some (says.Tables tables) e = right_some _ _ (line_some _)
text_some (says.Refused refusal) e = line_some _

-- the reply of a deed has a text
abbrev Texted : Deed → Type 0
Texted d = has_text d.reply ≡ true

unless_texted : (s : Session) (refusal : Option Refusal) (d : Deed) → Texted d → Texted (unless s refusal d)
unless_texted s None d is = is
unless_texted s (Some refusal) d is = refl

rows_texted : (w : World) (s : Session) (schema : Shape) (adds : Bool) (next : List Row → Deed) (r : Result (List Row) Refusal) → ((rows : List Row) → Texted (next rows)) → Texted (with_rows w s schema adds next r)
rows_texted w s schema adds next (Err refusal) are = refl
rows_texted w s schema adds next (Ok rows) are = unless_texted s (rows_refusal w schema adds rows) _ (are _)

file_texted : (w : World) (s : Session) (schema : Shape) (adds : Bool) (name : List ℕ) (next : List Row → Deed) (bytes : Option (List ℕ)) → ((rows : List Row) → Texted (next rows)) → Texted (with_file w s schema adds name next bytes)
file_texted w s schema adds name next None are = refl
file_texted w s schema adds name next (Some bytes) are = rows_texted w s schema adds next (rows_of schema bytes) are

csv_texted : (text : List ℕ) → text ≢ [] → has_text (says.Csv text) ≡ true
csv_texted [] some = absurd (some refl)
csv_texted (b ∷ bs) some = refl

csv_some : (schema : Shape) (rows : List Row) → text_of schema rows ≢ []
csv_some schema rows =
    left_some (row_text default_writer (names schema.columns)) _
    (right_some (row_body default_writer (names schema.columns)) _
    (right_some (if is_blank default_writer (names schema.columns) then 34 ∷ 34 ∷ [] else []) (10 ∷ []) (one_some 10 [])))

gives_texted : (s : Session) (cvd : Cvd) (rows : List Row) (file : Option (List ℕ)) → Texted (gives s cvd rows file)
gives_texted s cvd rows None = csv_texted (text_of cvd.schema rows) (csv_some cvd.schema rows)
gives_texted s cvd rows (Some file) = refl

checkout_texted : (s : Session) (vids : List ℕ) (file : Option (List ℕ)) (name : List ℕ) (d : Option Dataset) → Texted (checkout_deed s vids file name d)
checkout_texted s vids file name None = refl
checkout_texted s vids file name (Some d) = unless_texted s (vids_refusal (length d.cvd.versions) [] vids) _ (gives_texted s d.cvd (merge_of d.cvd vids) file)

under_texted : (w : World) (s : Session) (d : Dataset) (parents message : List ℕ) (added : List Column) (file : List ℕ) (schema : Result Shape SchemaErr) → Texted (commit_under w s d parents message added file schema)
under_texted w s d parents message added file (Err refusal) = refl
under_texted w s d parents message added file (Ok schema) =
    file_texted w s schema (not (length added == 0)) file (commit_rows s d parents message added) (s.files file)
    (λ rows. unless_texted s (records_refusal (wide added d) (fresh_of (wide added d) parents message rows)) _ refl)

commit_texted : (w : World) (s : Session) (name parents message : List ℕ) (added : List Column) (file : List ℕ) (d : Option Dataset) → Texted (commit_deed w s name parents message added file d)
commit_texted w s name parents message added file None = refl
commit_texted w s name parents message added file (Some d) =
    unless_texted s (commit_refusal d parents) _ (under_texted w s d parents message added file (schema_with d.cvd.schema added))

lines_texted : (versions : List Version) → 0 < length versions → has_text (says.Log (log_lines [] versions)) ≡ true
lines_texted [] some = absurd (omega (arith, some))
lines_texted (v ∷ vs) some = refl

found_by : (t : Bool) (x : Dataset) (later : Option Dataset) (d : Dataset) → 0 < length x.cvd.versions → (later ≡ Some d → 0 < length d.cvd.versions) → (if t then Some x else later) ≡ Some d → 0 < length d.cvd.versions
found_by true x later d has more e = subst (λ o. 0 < length o.cvd.versions) (the_some x d e) has
found_by false x later d has more e = more e

begun_found : (test : Dataset → Bool) (sets : List Dataset) (d : Dataset) → AllBegun sets → first_set test sets ≡ Some d → 0 < length d.cvd.versions
begun_found test [] d are e = cc
begun_found test (x ∷ xs) d are e = found_by (test x) x (first_set test xs) d are.0 (begun_found test xs d are.1) e

log_texted : (s : Session) (name : List ℕ) (d : Option Dataset) → ((x : Dataset) → d ≡ Some x → 0 < length x.cvd.versions) → Texted (log_deed s name d)
log_texted s name None has = refl
log_texted s name (Some d) has = lines_texted d.cvd.versions (has d refl)

drop_texted : (s : Session) (name : List ℕ) (d : Option Dataset) → Texted (drop_deed s name d)
drop_texted s name None = refl
drop_texted s name (Some d) = refl

optimize_texted : (s : Session) (name : List ℕ) (p q : ℕ) (d : Option Dataset) → Texted (optimize_deed s name p q d)
optimize_texted s name p q None = refl
optimize_texted s name p q (Some d) = unless_texted s (optimize_refusal d p q) _ refl

layout_texted : (s : Session) (name : List ℕ) (d : Option Dataset) → Texted (layout_deed s name d)
layout_texted s name None = refl
layout_texted s name (Some d) = refl

generated_texted : (name : List ℕ) (d : Option Dataset) → has_text (generated_reply name d) ≡ true
generated_texted name None = refl
generated_texted name (Some d) = refl

changes_texted : (w : World) (s t : Session) (name : List ℕ) (schema : Shape) (rows : List Row) (reply : Reply) (d : Option Dataset) → has_text reply ≡ true → Texted (changes w s t name schema rows reply d)
changes_texted w s t name schema rows reply d is = unless_texted s (change_refusal w name (version_rows schema rows) d) _ is

create_texted : (w : World) (s : Session) (name : List ℕ) (users : Option Dataset) → Texted (create_user_deed w s name users)
create_texted w s name users =
    unless_texted s (create_refusal name users) _
    (changes_texted w s s users_name users_schema (with_row (last_rows users) (user_row name)) (says.User name) users refl)

config_texted : (s : Session) (name : List ℕ) (users : Option Dataset) → Texted (config_deed s name users)
config_texted s name users = unless_texted s (config_refusal name users) _ refl

stage_of_texted : (w : World) (s : Session) (cvd table vids : List ℕ) (stage d : Option Dataset) → Texted (stage_of w s cvd table vids stage d)
stage_of_texted w s cvd table vids stage None = refl
stage_of_texted w s cvd table vids stage (Some d) =
    unless_texted s (staged_refusal s table vids d stage) _
    (changes_texted w s (with_staged s table vids d) stage_name stage_schema
    (with_row (last_rows stage) (table_row s.user table d.cvd.name d.cvd.number vids))
    (says.ToFile d.cvd.name (length (merge_of d.cvd vids)) (file_of_table s.user table)) stage refl)

from_texted : (w : World) (s : Session) (user table message : List ℕ) (from : Option (Dataset × List ℕ)) → Texted (commit_from w s user table message from)
from_texted w s user table message None = refl
from_texted w s user table message (Some from) = commit_texted w s from.0.cvd.name from.1 message [] (file_of_table user table) (Some from.0)

unstage_texted : (w : World) (s : Session) (user table : List ℕ) (stage : Option Dataset) → Texted (unstage_deed w s user table stage)
unstage_texted w s user table stage =
    unless_texted s (unstage_refusal user table stage) _
    (changes_texted w s s stage_name stage_schema (without_row (last_rows stage) user table) (says.Unstaged user table) stage refl)

foreign_texted : (s : Session) (stage : Option Dataset) (d : Deed) → Texted d → Texted (unless s (if_so (is_foreign stage_schema stage) no.ForeignRegistry) d)
foreign_texted s stage d is = unless_texted s (if_so (is_foreign stage_schema stage) no.ForeignRegistry) d is

within_texted : (s : Session) (name : List ℕ) (budget : ℕ) (d : Option Dataset) → Texted (within_deed s name budget d)
within_texted s name budget None = refl
within_texted s name budget (Some d) = unless_texted s (within_refusal d) _ (by (choice budget (table d)))
  where
    by : (found : Option (ℕ × BudgetLine)) → Texted (within_by s d budget found)
    by None = refl
    by (Some best) = refl

advise_texted : (s : Session) (name : List ℕ) (budget a b : ℕ) (d : Option Dataset) → Texted (advise_deed s name budget a b d)
advise_texted s name budget a b None = refl
advise_texted s name budget a b (Some d) = unless_texted s (if_so (not (is_threshold b a)) no.BadThreshold) _ (by (choice budget (table d)))
  where
    by : (found : Option (ℕ × BudgetLine)) → Texted (advise_by s d budget a b found)
    by None = refl
    by (Some best) = refl

answered_texted : (s : Session) (query : Query) (cvd : Cvd) (kinds : Result (List Kind) Refusal) → Texted (answered s query cvd kinds)
answered_texted s query cvd (Err refusal) = refl
answered_texted s query cvd (Ok kinds) = refl

query_texted : (s : Session) (query : Query) (found : Option Cvd) → Texted (query_by s query found)
query_texted s query None = refl
query_texted s query (Some cvd) = unless_texted s (query_refusal (length cvd.versions) query) _ (answered_texted s query cvd (kinds query cvd.schema))

join_texted : (s : Session) (join : JoinQuery) (left right : Result Cvd Refusal) → Texted (join_over s join left right)
join_texted s join (Err refusal) right = refl
join_texted s join (Ok left) (Err refusal) = refl
join_texted s join (Ok left) (Ok right) = by (join_kinds join left.schema right.schema)
  where
    many : (over : Bool) (kinds : List Kind) → Texted (if over then refuses s no.TooManyJoined else told s kinds (join_answer join left.schema right.schema (joined_rows join left right)))
    many true kinds = refl
    many false kinds = refl

    by : (of : Result (List Kind) Refusal) → Texted (join_by s join left right of)
    by (Err refusal) = refl
    by (Ok kinds) = many (nat_lt 1000000 (length (joined_rows join left right))) kinds

run_texted : (w : World) (s : Session) (asked : Asked) → Texted (run_deed w s asked)
run_texted w s (BadByte at) = refl
run_texted w s NoQuery = refl
run_texted w s (AsksQuery query) = unless_texted s (permit_names s.user (name_read query.source ∷ [])) _ (query_texted s query (cvd_in (set_named w (name_read query.source))))
run_texted w s (AsksJoin join) =
    unless_texted s (permit_names s.user (join.left.cvd ∷ join.right.cvd ∷ [])) _ (join_texted s join (side_of w join.left) (side_of w join.right))

permitted_texted : (w : World) (s : Session) (command : Command) → AllBegun w.sets → Texted (permitted w s command)
permitted_texted w s (asks.Init cvd schema file) begun =
    unless_texted s (init_refusal w cvd) _
    (file_texted w s schema false file (λ rows. does s (Init cvd schema rows) (says.Init cvd (length rows))) (s.files file) (λ rows. refl))
permitted_texted w s (asks.Checkout cvd vids file None) begun = checkout_texted s vids file cvd (set_named w cvd)
permitted_texted w s (asks.Checkout cvd vids file (Some table)) begun =
    unless_texted s (stage_refusal table vids (set_named w stage_name)) _ (stage_of_texted w s cvd table vids (set_named w stage_name) (set_named w cvd))
permitted_texted w s (asks.Commit cvd vids file message added) begun = commit_texted w s cvd vids message (columns_of added) file (set_named w cvd)
permitted_texted w s (asks.CommitStaged user table message) begun =
    let stage : Option Dataset = set_named w stage_name
    in foreign_texted s stage _ (from_texted w s user table message (staged_by w (table_in (last_rows stage) user table)))
permitted_texted w s (asks.Run text) begun = run_texted w s (asked_of text)
permitted_texted w s (asks.Optimize cvd p q) begun = optimize_texted s cvd p q (set_named w cvd)
permitted_texted w s (asks.OptimizeWithin cvd budget) begun = within_texted s cvd budget (set_named w cvd)
permitted_texted w s (asks.Advise cvd budget a b) begun = advise_texted s cvd budget a b (set_named w cvd)
permitted_texted w s (asks.Migrate count) begun = refl
permitted_texted w s (asks.Layout cvd) begun = layout_texted s cvd (set_named w cvd)
permitted_texted w s (asks.Log cvd) begun = log_texted s cvd (set_named w cvd) (λ x e. begun_found (named cvd) w.sets x begun e)
permitted_texted w s asks.Ls begun = refl
permitted_texted w s (asks.DropCvd cvd) begun = drop_texted s cvd (set_named w cvd)
permitted_texted w s asks.Checkpoint begun = refl
permitted_texted w s (asks.Generate cvd seed rows versions) begun =
    unless_texted s (init_refusal w cvd) (generate_by w s cvd (generated w.next cvd seed rows versions))
    (generated_texted cvd (set_named (all_moved (generated w.next cvd seed rows versions) w) cvd))
permitted_texted w s (asks.CreateUser name) begun = create_texted w s name (set_named w users_name)
permitted_texted w s (asks.Config name) begun = config_texted s name (set_named w users_name)
permitted_texted w s asks.Whoami begun = refl
permitted_texted w s (asks.Unstage user table) begun = unstage_texted w s user table (set_named w stage_name)
permitted_texted w s asks.Tables begun = foreign_texted s (set_named w stage_name) _ refl

deed_texted : (w : World) (s : Session) (command : Command) → AllBegun w.sets → Texted (deed w s command)
deed_texted w s command begun = unless_texted s (permit s.user command) (permitted w s command) (permitted_texted w s command begun)

-- a move leaves each dataset a version
begun_append : (a b : List Dataset) → AllBegun a → AllBegun b → AllBegun (a ++ b)
begun_append [] b are more = more
begun_append (d ∷ a) b are more = (are.0, begun_append a b are.1 more)

begun_if : (t : Bool) (d : Dataset) (sets : List Dataset) → 0 < length d.cvd.versions → AllBegun sets → AllBegun (if t then d ∷ sets else sets)
begun_if true d sets has are = (has, are)
begun_if false d sets has are = are

begun_filter : (test : Dataset → Bool) (sets : List Dataset) → AllBegun sets → AllBegun (filter test sets)
begun_filter test [] are = tt
begun_filter test (d ∷ sets) are = begun_if (test d) d (filter test sets) are.0 (begun_filter test sets are.1)

changed_has : (t : Bool) (f : Dataset → Dataset) (d : Dataset) → 0 < length (f d).cvd.versions → 0 < length d.cvd.versions → 0 < length (if t then f d else d).cvd.versions
changed_has true f d more has = more
changed_has false f d more has = has

begun_change : (cvd : ℕ) (f : Dataset → Dataset) (sets : List Dataset) → ((d : Dataset) → 0 < length (f d).cvd.versions) → AllBegun sets → AllBegun (change cvd f sets)
begun_change cvd f [] more are = tt
begun_change cvd f (d ∷ sets) more are = (changed_has (numbered cvd d) f d (more d) are.0, begun_change cvd f sets more are.1)

begun_kept : (cvd : ℕ) (f : Dataset → Dataset) (sets : List Dataset) → ((d : Dataset) → 0 < length d.cvd.versions → 0 < length (f d).cvd.versions) → AllBegun sets → AllBegun (change cvd f sets)
begun_kept cvd f [] more are = tt
begun_kept cvd f (d ∷ sets) more are = (changed_has (numbered cvd d) f d (more d are.0) are.0, begun_kept cvd f sets more are.1)

flip_has : (d : Dataset) (plan : Option Plan) → 0 < length d.cvd.versions → 0 < length (flipped_by d plan).cvd.versions
flip_has d None has = has
flip_has d (Some plan) has = has

version_more : (v : Version) (d : Dataset) → 0 < length (with_version v d).cvd.versions
version_more v d = omega (arith, length-append d.cvd.versions (v ∷ []))

pub begun_moved : (w : World) (m : Move) → AllBegun w.sets → AllBegun (moved m w).sets
begun_moved w (Init name schema rows) are = begun_append w.sets _ are (omega arith, tt)
begun_moved w (Commit cvd parents message added rows) are =
    begun_change cvd (committed parents message added rows) w.sets (λ d. version_more (version_of parents message rows) (wide added d)) are
begun_moved w (BeginPlan cvd p q) are = begun_kept cvd (planned p q) w.sets (λ d has. has) are
begun_moved w (Copy cvd) are = begun_kept cvd copied_more w.sets (λ d has. has) are
begun_moved w (Flip cvd) are = begun_kept cvd flipped w.sets (λ d has. flip_has d d.plan has) are
begun_moved w Checkpoint are = are
begun_moved w (Drop cvd) are = begun_filter (λ d. not (numbered cvd d)) w.sets are

-- each reply has a text, and each dataset has a version then
abbrev Fine : Served → Type 0
Fine served = SaysSome served.items × AllBegun served.world.sets

refused_fine : (refusal : Refusal) (w : World) (s : Session) (space : Space) → AllBegun w.sets → Fine (replied (says.Refused refusal) w s space)
refused_fine refusal w s space begun = ((line_some _, tt), begun)

attempt_fine : (room : Room) (taken : Option (ℕ × ℕ)) (w : World) (s : Session) (space : Space) (more : Served) → AllBegun w.sets → Fine more → Fine (attempt room taken w s space more)
attempt_fine Enough taken w s space more begun fine = fine
attempt_fine (NoRun pages) taken w s space more begun fine = refused_fine (no.NoRun pages taken) w s space begun
attempt_fine Full taken w s space more begun fine = refused_fine (no.JournalFull taken) w s space begun

attempts_fine : (d : Deed) (s : Session) (taken : ℕ) (ms : List Move) (w : World) (space : Space) → Texted d → AllBegun w.sets → Fine (attempts d s taken ms w space)
attempts_fine d s taken [] w space texted begun = ((text_some d.reply texted, tt), begun)
attempts_fine d s taken (m ∷ ms) w space texted begun =
    attempt_fine (first space) (steps_then d.counts_steps taken w) w s (rest space) _ begun
    (attempts_fine d s (taken + 1) ms (moved m w) (rest space) texted (begun_moved w m begun))

try_fine : (room : Room) (w : World) (s : Session) (space : Space) (more : Served) → AllBegun w.sets → Fine more → Fine (try_step room w s space more)
try_fine Enough w s space more begun fine = fine
try_fine (NoRun pages) w s space more begun fine = (tt, begun)
try_fine Full w s space more begun fine = (tt, begun)

step_fine : (more : World → Space → Served) (w : World) (s : Session) (space : Space) (next : Option Move) → AllBegun w.sets → ((v : World) (left : Space) → AllBegun v.sets → Fine (more v left)) → Fine (step_by more w s space next)
step_fine more w s space None begun fine = (tt, begun)
step_fine more w s space (Some m) begun fine =
    try_fine (first space) w s (rest space) (after (Makes m ∷ []) (more (moved m w) (rest space))) begun
    (fine (moved m w) (rest space) (begun_moved w m begun))

steps_fine : (n : ℕ) (s : Session) (w : World) (space : Space) → AllBegun w.sets → Fine (steps n s w space)
steps_fine zero s w space begun = (tt, begun)
steps_fine (suc n) s w space begun = step_fine (steps n s) w s space (next_step w) begun (λ v left are. steps_fine n s v left are)

says_append : (a b : List Item) → SaysSome a → SaysSome b → SaysSome (a ++ b)
says_append [] b are more = more
says_append (Makes m ∷ a) b are more = says_append a b are more
says_append (Says reply ∷ a) b are more = (are.0, says_append a b are.1 more)

then_fine : (n : ℕ) (a : Served) → Fine a → Fine (and_steps n a)
then_fine n a fine =
    let more = steps_fine n a.session a.world a.left fine.1
    in (says_append a.items (steps n a.session a.world a.left).items fine.0 more.0, more.1)

line_fine : (n : ℕ) (w : World) (s : Session) (space : Space) (line : Line) → AllBegun w.sets → Fine (line_served n w s space line)
line_fine n w s space Comment begun = (tt, begun)
line_fine n w s space (Asks command) begun =
    then_fine n (attempts (deed w s command) s 0 (deed w s command).moves w space) (attempts_fine (deed w s command) s 0 (deed w s command).moves w space (deed_texted w s command begun) begun)
line_fine n w s space (Refused refusal) begun = then_fine n (replied (says.Refused refusal) w s space) (refused_fine refusal w s space begun)

course_fine : (f : List Form) (n : ℕ) (w : World) (s : Session) (lines : List (List ℕ)) (space : Space) → AllBegun w.sets → Fine (course f n w s lines space)
course_fine f n w s [] space begun = (tt, begun)
course_fine f n w s (line ∷ lines) space begun =
    let one = served f n w s line space
    in let fine = line_fine n w s space (line_of f line) begun
    in let more = course_fine f n one.world one.session lines one.left fine.1
    in (says_append one.items (course f n one.world one.session lines one.left).items fine.0 more.0, more.1)

pub says_some : (f : List Form) (n : ℕ) (w : World) (s : Session) (lines : List (List ℕ)) (space : Space) → AllBegun w.sets → SaysSome (course f n w s lines space).items
says_some f n w s lines space begun = (course_fine f n w s lines space begun).0
