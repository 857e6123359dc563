-- What a command does begins no plan; or it begins one and does nothing else, and its reply tells what will stand.
use Rattle.std.proofs.Common.{◌≡◌, ◌⊎◌, ℕ, zero, suc, Bool, true, false, ◌==◌, List, [], ◌∷◌, length, map, filter, refl, inl, inr}
use Rattle.std.specs.Prelude.{not, nat_lt, if◌then◌else◌, Option, Some, None, Result, Ok, Err}
use Rattle.ov_value.specs.Shapes.{Shape}
use Rattle.ov_value.specs.declared.column.Column.{Column}
use Rattle.ov_value.specs.declared.column.Kind.{Kind}
use Rattle.ov_value.specs.declared.schema_err.SchemaErr.{SchemaErr}
use Rattle.ov_model.specs.Act.{Session, Deed, checkout_deed, columns_of, commit_deed, commit_refusal, commit_rows, commit_under, does, drop_deed, generate_by, gives, if_so, init_deed, init_refusal, is_threshold, layout_deed, log_deed, merge_of, optimize_deed, optimize_refusal, optimized, refuses, rows_refusal, schema_with, tells, unless, vids_refusal, from_file, with_file, with_rows}
use Rattle.ov_model.specs.Asking.{answered, name_read, query_by, query_refusal, run_deed}
use Rattle.ov_model.specs.Book.{Cvd, Row}
use Rattle.ov_model.specs.Budget.{advise_by, advise_deed, choice, table, within_by, within_deed, within_refusal}
use Rattle.ov_model.specs.Csv.{rows_of}
use Rattle.ov_model.specs.Deed.{changes, commit_from, commit_staged_deed, config_deed, config_refusal, create_refusal, create_user_deed, deed, file_of_table, is_own, permitted, stage_deed, stage_of, stage_refusal, staged, staged_by, staged_refusal, table_shown, tables_deed, unstage_deed, unstage_refusal, with_staged}
use Rattle.ov_model.specs.Generator.{commits, generated}
use Rattle.ov_model.specs.Joins.{join_answer, join_by, join_deed, join_kinds, join_over, joined_rows, side_of, told}
use Rattle.ov_model.specs.Kinds.{kinds}
use Rattle.ov_model.specs.Lists.{IsIn}
use Rattle.ov_model.specs.Merge.{in_key_order}
use Rattle.ov_model.specs.Moves.{Move, Init, Commit, BeginPlan, Copy, Flip, moved}
use Rattle.ov_model.specs.Plans.{missing, parts_at}
use Rattle.ov_model.specs.QueryTexts.{Asked, AsksJoin, AsksQuery, BadByte, NoQuery, asked_of}
use Rattle.ov_model.specs.Registry.{change_of, change_refusal, is_foreign, last_rows, stage_name, stage_schema, table_in, table_row, user_row, users_name, users_schema, version_rows, with_row, without_row}
use Rattle.ov_model.specs.Steps.{and_after, first_step, next_step, next_steps, step_or}
use Rattle.ov_model.specs.Users.{permit, permit_names}
use Rattle.ov_model.specs.World.{Plan, Dataset, World, cvd_in, set_named}
use Rattle.ov_model.specs.declared.command.Command.{Command}
use Rattle.ov_model.specs.declared.command.Command.TheVariants as asks
use Rattle.ov_model.specs.declared.query.JoinQuery.{JoinQuery}
use Rattle.ov_model.specs.declared.query.Query.{Query}
use Rattle.ov_model.specs.declared.refusal.Refusal.{Refusal}
use Rattle.ov_model.specs.declared.refusal.Refusal.TheVariants as no
use Rattle.ov_model.specs.declared.reply.BudgetLine.{BudgetLine}
use Rattle.ov_model.specs.declared.reply.Reply.{Reply}
use Rattle.ov_model.specs.declared.reply.Reply.TheVariants as says
use Rattle.law_partitions.proofs.CourseNumbers.{named_in}
use Rattle.law_plans.specs.Told.{figures_planned, figures_told}

-- it begins no plan
abbrev pub IsPlain : Move → Type 0
IsPlain (BeginPlan cvd p q) = ⊥
IsPlain _ = Unit {0}

abbrev pub AllPlain : List Move → Type 0
AllPlain [] = Unit {0}
AllPlain (m ∷ ms) = IsPlain m × AllPlain ms

-- it begins a plan and does nothing else, and its reply tells what will stand
pub record Begins (w : World) (d : Deed) : Type 0 where
  pub set : Dataset
  pub there : IsIn w.sets set
  pub p : ℕ
  pub q : ℕ
  pub moves : d.moves ≡ BeginPlan set.cvd.number p q ∷ []
  pub tells : figures_told d.reply ≡ Some (figures_planned set p q)

abbrev pub IsToldOf : World → Deed → Type 0
IsToldOf w d = AllPlain d.moves ⊎ Begins w d

-- ---- refusals, and rows of a file

unless_plain : (s : Session) (refusal : Option Refusal) (d : Deed) → AllPlain d.moves → AllPlain (unless s refusal d).moves
unless_plain s None d plain = plain
unless_plain s (Some refusal) d plain = tt

unless_told : (w : World) (s : Session) (refusal : Option Refusal) (d : Deed) → IsToldOf w d → IsToldOf w (unless s refusal d)
unless_told w s None d told = told
unless_told w s (Some refusal) d told = inl tt

rows_plain : (w : World) (s : Session) (schema : Shape) (adds : Bool) (next : List Row → Deed) (given : Result (List Row) Refusal) → ((rows : List Row) → AllPlain (next rows).moves)
    → AllPlain (with_rows w s schema adds next given).moves
rows_plain w s schema adds next (Err refusal) plain = tt
rows_plain w s schema adds next (Ok rows) plain = unless_plain s (rows_refusal w schema adds rows) (next (in_key_order schema rows)) (plain (in_key_order schema rows))

file_plain : (w : World) (s : Session) (schema : Shape) (adds : Bool) (name : List ℕ) (next : List Row → Deed) (file : Option (List ℕ)) → ((rows : List Row) → AllPlain (next rows).moves)
    → AllPlain (with_file w s schema adds name next file).moves
file_plain w s schema adds name next None plain = tt
file_plain w s schema adds name next (Some bytes) plain = rows_plain w s schema adds next (rows_of schema bytes) plain

-- ---- commands

init_plain : (w : World) (s : Session) (cvd : List ℕ) (schema : Shape) (file : List ℕ) → AllPlain (init_deed w s cvd schema file).moves
init_plain w s cvd schema file =
    unless_plain s (init_refusal w cvd) (from_file w s schema false file (λ rows. does s (Init cvd schema rows) (says.Init cvd (length rows))))
    (file_plain w s schema false file (λ rows. does s (Init cvd schema rows) (says.Init cvd (length rows))) (s.files file) (λ rows. (tt, tt)))

gives_plain : (s : Session) (d : Dataset) (rows : List Row) (file : Option (List ℕ)) → AllPlain (gives s d.cvd rows file).moves
gives_plain s d rows None = tt
gives_plain s d rows (Some file) = tt

checkout_plain : (s : Session) (vids : List ℕ) (file : Option (List ℕ)) (name : List ℕ) (found : Option Dataset) → AllPlain (checkout_deed s vids file name found).moves
checkout_plain s vids file name None = tt
checkout_plain s vids file name (Some d) =
    unless_plain s (vids_refusal (length d.cvd.versions) [] vids) (gives s d.cvd (merge_of d.cvd vids) file) (gives_plain s d (merge_of d.cvd vids) file)

under_plain : (w : World) (s : Session) (d : Dataset) (parents message : List ℕ) (added : List Column) (file : List ℕ) (schema : Result Shape SchemaErr)
    → AllPlain (commit_under w s d parents message added file schema).moves
under_plain w s d parents message added file (Err refusal) = tt
under_plain w s d parents message added file (Ok schema) =
    file_plain w s schema (not (length added == 0)) file (commit_rows s d parents message added) (s.files file)
    (λ rows. unless_plain s _ (does s (Commit d.cvd.number parents message added rows) _) (tt, tt))

commit_plain : (w : World) (s : Session) (name parents message : List ℕ) (added : List Column) (file : List ℕ) (found : Option Dataset) → AllPlain (commit_deed w s name parents message added file found).moves
commit_plain w s name parents message added file None = tt
commit_plain w s name parents message added file (Some d) =
    unless_plain s (commit_refusal d parents) (commit_under w s d parents message added file (schema_with d.cvd.schema added))
    (under_plain w s d parents message added file (schema_with d.cvd.schema added))

log_plain : (s : Session) (name : List ℕ) (found : Option Dataset) → AllPlain (log_deed s name found).moves
log_plain s name None = tt
log_plain s name (Some d) = tt

layout_plain : (s : Session) (name : List ℕ) (found : Option Dataset) → AllPlain (layout_deed s name found).moves
layout_plain s name None = tt
layout_plain s name (Some d) = tt

drop_plain : (s : Session) (name : List ℕ) (found : Option Dataset) → AllPlain (drop_deed s name found).moves
drop_plain s name None = tt
drop_plain s name (Some d) = (tt, tt)

advise_plain : (s : Session) (name : List ℕ) (budget a b : ℕ) (found : Option Dataset) → AllPlain (advise_deed s name budget a b found).moves
advise_plain s name budget a b None = tt
advise_plain s name budget a b (Some d) =
    unless_plain s (if_so (not (is_threshold b a)) no.BadThreshold) (advise_by s d budget a b (choice budget (table d))) (by (choice budget (table d)))
  where
    by : (found : Option (ℕ × BudgetLine)) → AllPlain (advise_by s d budget a b found).moves
    by None = tt
    by (Some best) = tt

-- ---- a run of a query

answered_plain : (s : Session) (query : Query) (cvd : Cvd) (of : Result (List Kind) Refusal) → AllPlain (answered s query cvd of).moves
answered_plain s query cvd (Err refusal) = tt
answered_plain s query cvd (Ok kinds) = tt

query_plain : (s : Session) (query : Query) (found : Option Cvd) → AllPlain (query_by s query found).moves
query_plain s query None = tt
query_plain s query (Some cvd) =
    unless_plain s (query_refusal (length cvd.versions) query) (answered s query cvd (kinds query cvd.schema)) (answered_plain s query cvd (kinds query cvd.schema))

join_plain : (s : Session) (join : JoinQuery) (left right : Result Cvd Refusal) → AllPlain (join_over s join left right).moves
join_plain s join (Err refusal) right = tt
join_plain s join (Ok left) (Err refusal) = tt
join_plain s join (Ok left) (Ok right) = by (join_kinds join left.schema right.schema)
  where
    many : (over : Bool) (of : List Kind) → AllPlain (if over then refuses s no.TooManyJoined else told s of (join_answer join left.schema right.schema (joined_rows join left right))).moves
    many true of = tt
    many false of = tt

    by : (of : Result (List Kind) Refusal) → AllPlain (join_by s join left right of).moves
    by (Err refusal) = tt
    by (Ok of) = many (nat_lt 1000000 (length (joined_rows join left right))) of

run_plain : (w : World) (s : Session) (asked : Asked) → AllPlain (run_deed w s asked).moves
run_plain w s (BadByte at) = tt
run_plain w s NoQuery = tt
run_plain w s (AsksQuery query) =
    let found : Option Cvd = cvd_in (set_named w (name_read query.source))
    in unless_plain s (permit_names s.user (name_read query.source ∷ [])) (query_by s query found) (query_plain s query found)
run_plain w s (AsksJoin join) =
    unless_plain s (permit_names s.user (join.left.cvd ∷ join.right.cvd ∷ [])) (join_deed w s join) (join_plain s join (side_of w join.left) (side_of w join.right))

-- ---- steps, and the generator

abbrev pub PlainIf : Option Move → Type 0
PlainIf None = Unit {0}
PlainIf (Some m) = IsPlain m

step_plain : (t : Bool) (number : ℕ) → IsPlain (if t then Flip number else Copy number)
step_plain true number = tt
step_plain false number = tt

or_plain : (d : Dataset) (plan : Option Plan) (later : Option Move) → PlainIf later → PlainIf (step_or d plan later)
or_plain d None later plain = plain
or_plain d (Some plan) later plain = step_plain (length (missing d plan) == 0) d.cvd.number

first_plain : (sets : List Dataset) → PlainIf (first_step sets)
first_plain [] = tt
first_plain (d ∷ sets) = or_plain d d.plan (first_step sets) (first_plain sets)

pub next_plain : (w : World) → PlainIf (next_step w)
next_plain w = first_plain w.sets

after_plain : (more : World → List Move) (w : World) (next : Option Move) → PlainIf next → ((v : World) → AllPlain (more v)) → AllPlain (and_after more w next)
after_plain more w None plain later = tt
after_plain more w (Some m) plain later = (plain, later (moved m w))

steps_plain : (n : ℕ) (w : World) → AllPlain (next_steps n w)
steps_plain zero w = tt
steps_plain (suc n) w = after_plain (next_steps n) w (next_step w) (next_plain w) (steps_plain n)

commits_plain : (left number count x : ℕ) (done : List (List Row)) → AllPlain (commits left number count x done)
commits_plain zero number count x done = tt
commits_plain (suc left) number count x done = (tt, commits_plain left number count _ _)

generated_plain : (number : ℕ) (name : List ℕ) (seed count versions : ℕ) → AllPlain (generated number name seed count versions)
generated_plain number name seed count versions = (tt, commits_plain _ number count _ _)

-- ---- the registry

change_plain : (name : List ℕ) (schema : Shape) (rows : List Row) (found : Option Dataset) → IsPlain (change_of name schema rows found)
change_plain name schema rows None = tt
change_plain name schema rows (Some d) = tt

changes_plain : (w : World) (s t : Session) (name : List ℕ) (schema : Shape) (rows : List Row) (reply : Reply) (found : Option Dataset) → AllPlain (changes w s t name schema rows reply found).moves
changes_plain w s t name schema rows reply found =
    unless_plain s (change_refusal w name (version_rows schema rows) found) (does t (change_of name schema (version_rows schema rows) found) reply)
    (change_plain name schema (version_rows schema rows) found, tt)

create_plain : (w : World) (s : Session) (name : List ℕ) (users : Option Dataset) → AllPlain (create_user_deed w s name users).moves
create_plain w s name users =
    unless_plain s (create_refusal name users) (changes w s s users_name users_schema (with_row (last_rows users) (user_row name)) (says.User name) users)
    (changes_plain w s s users_name users_schema (with_row (last_rows users) (user_row name)) (says.User name) users)

config_plain : (s : Session) (name : List ℕ) (users : Option Dataset) → AllPlain (config_deed s name users).moves
config_plain s name users = unless_plain s (config_refusal name users) (tells (record s { user = name }) (says.User name)) tt

stage_of_plain : (w : World) (s : Session) (cvd table vids : List ℕ) (stage found : Option Dataset) → AllPlain (stage_of w s cvd table vids stage found).moves
stage_of_plain w s cvd table vids stage None = tt
stage_of_plain w s cvd table vids stage (Some d) =
    unless_plain s (staged_refusal s table vids d stage) (staged w s table vids d stage)
    (changes_plain w s (with_staged s table vids d) stage_name stage_schema (with_row (last_rows stage) (table_row s.user table d.cvd.name d.cvd.number vids))
    (says.ToFile d.cvd.name (length (merge_of d.cvd vids)) (file_of_table s.user table)) stage)

stage_plain : (w : World) (s : Session) (cvd table vids : List ℕ) (stage found : Option Dataset) → AllPlain (stage_deed w s cvd table vids stage found).moves
stage_plain w s cvd table vids stage found = unless_plain s (stage_refusal table vids stage) (stage_of w s cvd table vids stage found) (stage_of_plain w s cvd table vids stage found)

unstage_plain : (w : World) (s : Session) (user table : List ℕ) (stage : Option Dataset) → AllPlain (unstage_deed w s user table stage).moves
unstage_plain w s user table stage =
    unless_plain s (unstage_refusal user table stage) (changes w s s stage_name stage_schema (without_row (last_rows stage) user table) (says.Unstaged user table) stage)
    (changes_plain w s s stage_name stage_schema (without_row (last_rows stage) user table) (says.Unstaged user table) stage)

from_plain : (w : World) (s : Session) (user table message : List ℕ) (from : Option (Dataset × List ℕ)) → AllPlain (commit_from w s user table message from).moves
from_plain w s user table message None = tt
from_plain w s user table message (Some from) = commit_plain w s from.0.cvd.name from.1 message [] (file_of_table user table) (Some from.0)

commit_staged_plain : (w : World) (s : Session) (user table message : List ℕ) (stage : Option Dataset) → AllPlain (commit_staged_deed w s user table message stage).moves
commit_staged_plain w s user table message stage =
    unless_plain s (if_so (is_foreign stage_schema stage) no.ForeignRegistry) (commit_from w s user table message (staged_by w (table_in (last_rows stage) user table)))
    (from_plain w s user table message (staged_by w (table_in (last_rows stage) user table)))

tables_plain : (s : Session) (stage : Option Dataset) → AllPlain (tables_deed s stage).moves
tables_plain s stage =
    unless_plain s (if_so (is_foreign stage_schema stage) no.ForeignRegistry) (tells s (says.Tables (map table_shown (filter (is_own s.user) (last_rows stage))))) tt

checkout_by_plain : (w : World) (s : Session) (cvd vids : List ℕ) (file table : Option (List ℕ)) → AllPlain (permitted w s (asks.Checkout cvd vids file table)).moves
checkout_by_plain w s cvd vids file None = checkout_plain s vids file cvd (set_named w cvd)
checkout_by_plain w s cvd vids file (Some table) = stage_plain w s cvd table vids (set_named w stage_name) (set_named w cvd)

-- ---- a plan begins

optimize_told : (w : World) (s : Session) (name : List ℕ) (p q : ℕ) (found : Option Dataset) → set_named w name ≡ found → IsToldOf w (optimize_deed s name p q found)
optimize_told w s name p q None e = inl tt
optimize_told w s name p q (Some d) e =
    unless_told w s (optimize_refusal d p q) (does s (BeginPlan d.cvd.number p q) (optimized d p q (parts_at d p q)))
    (inr (record { set = d; there = named_in w name d e; p = p; q = q; moves = refl; tells = refl }))

within_by_told : (w : World) (s : Session) (d : Dataset) (budget : ℕ) (found : Option (ℕ × BudgetLine)) → IsIn w.sets d → IsToldOf w (within_by s d budget found)
within_by_told w s d budget None there = inl tt
within_by_told w s d budget (Some best) there = inr (record { set = d; there = there; p = best.0; q = 100; moves = refl; tells = refl })

within_told : (w : World) (s : Session) (name : List ℕ) (budget : ℕ) (found : Option Dataset) → set_named w name ≡ found → IsToldOf w (within_deed s name budget found)
within_told w s name budget None e = inl tt
within_told w s name budget (Some d) e =
    unless_told w s (within_refusal d) (within_by s d budget (choice budget (table d))) (within_by_told w s d budget (choice budget (table d)) (named_in w name d e))

-- ---- a command

permitted_told : (w : World) (s : Session) (command : Command) → IsToldOf w (permitted w s command)
permitted_told w s (asks.Init cvd schema file) = inl (init_plain w s cvd schema file)
permitted_told w s (asks.Checkout cvd vids file table) = inl (checkout_by_plain w s cvd vids file table)
permitted_told w s (asks.Commit cvd vids file message added) = inl (commit_plain w s cvd vids message (columns_of added) file (set_named w cvd))
permitted_told w s (asks.CommitStaged user table message) = inl (commit_staged_plain w s user table message (set_named w stage_name))
permitted_told w s (asks.Run text) = inl (run_plain w s (asked_of text))
permitted_told w s (asks.Optimize cvd p q) = optimize_told w s cvd p q (set_named w cvd) refl
permitted_told w s (asks.OptimizeWithin cvd budget) = within_told w s cvd budget (set_named w cvd) refl
permitted_told w s (asks.Advise cvd budget a b) = inl (advise_plain s cvd budget a b (set_named w cvd))
permitted_told w s (asks.Migrate count) = inl (steps_plain count w)
permitted_told w s (asks.Layout cvd) = inl (layout_plain s cvd (set_named w cvd))
permitted_told w s (asks.Log cvd) = inl (log_plain s cvd (set_named w cvd))
permitted_told w s asks.Ls = inl tt
permitted_told w s (asks.DropCvd cvd) = inl (drop_plain s cvd (set_named w cvd))
permitted_told w s asks.Checkpoint = inl (tt, tt)
permitted_told w s (asks.Generate cvd seed rows versions) =
    inl (unless_plain s (init_refusal w cvd) (generate_by w s cvd (generated w.next cvd seed rows versions)) (generated_plain w.next cvd seed rows versions))
permitted_told w s (asks.CreateUser name) = inl (create_plain w s name (set_named w users_name))
permitted_told w s (asks.Config name) = inl (config_plain s name (set_named w users_name))
permitted_told w s asks.Whoami = inl tt
permitted_told w s (asks.Unstage user table) = inl (unstage_plain w s user table (set_named w stage_name))
permitted_told w s asks.Tables = inl (tables_plain s (set_named w stage_name))

pub deed_told : (w : World) (s : Session) (command : Command) → IsToldOf w (deed w s command)
deed_told w s command = unless_told w s (permit s.user command) (permitted w s command) (permitted_told w s command)
