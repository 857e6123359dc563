-- What a command means over a World: its moves, its reply, and the files and the user after it.
--     deed w s command      the first refusal in its order, or else what is done and said
-- Rule 71 comes first, directly behind the refusals of the line; of a `run` it is asked behind what its text is refused for.
use Rattle.std.specs.Prelude.{◌≡◌, ◌⊎◌, ℕ, Bool, not, ◌&&◌, nat_lt, List, [], ◌∷◌, ◌++◌, length, map, filter, Option, Some, None, is_some, codes}
use Rattle.std.specs.Option.{option_or}
use Rattle.std.specs.Str.{bytes_eq}
use Rattle.ov_value.specs.declared.value.Value.TheVariants.{Text}
use Rattle.ov_value.specs.Naming.{is_name}
use Rattle.ov_value.specs.Rows.{value_at}
use Rattle.ov_value.specs.Shapes.{Shape}
use Rattle.ov_model.specs.Act.{Session, Deed, put, tells, refuses, does, unless, if_so, vids_refusal, init_refusal, init_deed, merge_of, checkout_deed, columns_of, commit_deed, log_deed, ls_line, drop_deed, optimize_deed, migrate_by, layout_deed, checkpoint_deed, generate_by}
use Rattle.ov_model.specs.Asking.{run_deed}
use Rattle.ov_model.specs.Book.{Row}
use Rattle.ov_model.specs.Budget.{advise_deed, within_deed}
use Rattle.ov_model.specs.Csv.{text_of}
use Rattle.ov_model.specs.Generator.{generated}
use Rattle.ov_model.specs.QueryTexts.{asked_of}
use Rattle.ov_model.specs.Registry.{users_name, users_schema, stage_name, stage_schema, is_foreign, last_rows, version_rows, with_row, user_row, is_user, table_row, table_in, without_row, as_text, staged_of, change_refusal, change_of}
use Rattle.ov_model.specs.Steps.{next_steps}
use Rattle.ov_model.specs.Users.{permit}
use Rattle.ov_model.specs.World.{Dataset, World, set_named}
use Rattle.ov_model.specs.declared.command.Command.{Command}
use Rattle.ov_model.specs.declared.command.Command.TheVariants as asks
use Rattle.ov_model.specs.declared.refusal.Refusal.{Refusal}
use Rattle.ov_model.specs.declared.refusal.Refusal.TheVariants as no
use Rattle.ov_model.specs.declared.reply.Reply.{Reply}
use Rattle.ov_model.specs.declared.reply.Reply.TheVariants as says
use Rattle.ov_model.specs.declared.reply.TableLine.{TableLine}

-- a table with its user, and its file
abbrev pub table_named : List ℕ → List ℕ → List ℕ
table_named user table = user ++ 46 ∷ table

abbrev pub file_of_table : List ℕ → List ℕ → List ℕ
file_of_table user table = table_named user table ++ codes ".staged"

-- A change of the dataset of this name, live or not, to these rows: one move, after which `t` is the session; or its refusal.
abbrev pub changes : World → Session → Session → List ℕ → Shape → List Row → Reply → Option Dataset → Deed
changes w s t name schema rows reply d =
    unless s (change_refusal w name (version_rows schema rows) d) (does t (change_of name schema (version_rows schema rows) d) reply)

-- Create_user: a row more among the users.
abbrev pub create_refusal : List ℕ → Option Dataset → Option Refusal
create_refusal name users =
    option_or (if_so (not (is_name name)) (no.BadName name))
    (option_or (if_so (is_foreign users_schema users) no.ForeignRegistry)
    (if_so (is_user (last_rows users) name) (no.UserExists name)))

abbrev pub create_user_deed : World → Session → List ℕ → Option Dataset → Deed
create_user_deed w s name users =
    unless s (create_refusal name users)
    (changes w s s users_name users_schema (with_row (last_rows users) (user_row name)) (says.User name) users)

-- Config: the user from here on.
abbrev pub config_refusal : List ℕ → Option Dataset → Option Refusal
config_refusal name users =
    option_or (if_so (is_foreign users_schema users) no.ForeignRegistry)
    (if_so (not (is_name name && is_user (last_rows users) name)) (no.NoUser name))

abbrev pub config_deed : Session → List ℕ → Option Dataset → Deed
config_deed s name users = unless s (config_refusal name users) (tells (record s { user = name }) (says.User name))

-- Checkout with `-t`: a row more among the staged tables, and then the table's file.
abbrev pub stage_refusal : List ℕ → List ℕ → Option Dataset → Option Refusal
stage_refusal table vids stage =
    option_or (if_so (not (is_name table)) (no.BadName table))
    (option_or (if_so (is_foreign stage_schema stage) no.ForeignRegistry)
    (if_so (nat_lt 1000 (length vids)) no.TooManyListed))

abbrev pub staged_refusal : Session → List ℕ → List ℕ → Dataset → Option Dataset → Option Refusal
staged_refusal s table vids d stage =
    option_or (vids_refusal (length d.cvd.versions) [] vids)
    (if_so (is_some (table_in (last_rows stage) s.user table)) (no.TableStaged (table_named s.user table)))

abbrev pub with_staged : Session → List ℕ → List ℕ → Dataset → Session
with_staged s table vids d = record s { files = put s.files (file_of_table s.user table) (text_of d.cvd.schema (merge_of d.cvd vids)) }

abbrev pub staged : World → Session → List ℕ → List ℕ → Dataset → Option Dataset → Deed
staged w s table vids d stage =
    changes w s (with_staged s table vids d) stage_name stage_schema
    (with_row (last_rows stage) (table_row s.user table d.cvd.name d.cvd.number vids))
    (says.ToFile d.cvd.name (length (merge_of d.cvd vids)) (file_of_table s.user table)) stage

abbrev pub stage_of : World → Session → List ℕ → List ℕ → List ℕ → Option Dataset → Option Dataset → Deed
stage_of w s cvd table vids stage None = refuses s (no.NoCvd cvd)
stage_of w s cvd table vids stage (Some d) = unless s (staged_refusal s table vids d stage) (staged w s table vids d stage)

abbrev pub stage_deed : World → Session → List ℕ → List ℕ → List ℕ → Option Dataset → Option Dataset → Deed
stage_deed w s cvd table vids stage d = unless s (stage_refusal table vids stage) (stage_of w s cvd table vids stage d)

-- Commit with `-t`: as a commit of the table's file on the versions that it was checked out from.
abbrev pub commit_from : World → Session → List ℕ → List ℕ → List ℕ → Option (Dataset × List ℕ) → Deed
commit_from w s user table message None = refuses s (no.NoTable (table_named user table))
commit_from w s user table message (Some from) =
    commit_deed w s from.0.cvd.name from.1 message [] (file_of_table user table) (Some from.0)

abbrev pub staged_by : World → Option Row → Option (Dataset × List ℕ)
staged_by w None = None
staged_by w (Some row) = staged_of w row

abbrev pub commit_staged_deed : World → Session → List ℕ → List ℕ → List ℕ → Option Dataset → Deed
commit_staged_deed w s user table message stage =
    unless s (if_so (is_foreign stage_schema stage) no.ForeignRegistry)
    (commit_from w s user table message (staged_by w (table_in (last_rows stage) user table)))

-- Unstage: the staged tables without one.
abbrev pub unstage_refusal : List ℕ → List ℕ → Option Dataset → Option Refusal
unstage_refusal user table stage =
    option_or (if_so (is_foreign stage_schema stage) no.ForeignRegistry)
    (if_so (not (is_some (table_in (last_rows stage) user table))) (no.NoTable (table_named user table)))

abbrev pub unstage_deed : World → Session → List ℕ → List ℕ → Option Dataset → Deed
unstage_deed w s user table stage =
    unless s (unstage_refusal user table stage)
    (changes w s s stage_name stage_schema (without_row (last_rows stage) user table) (says.Unstaged user table) stage)

-- Tables: the user's own staged tables, by name.
abbrev pub text_or_none : Option (List ℕ) → List ℕ
text_or_none (Some text) = text
text_or_none None = []

abbrev pub text_in_row : Row → ℕ → List ℕ
text_in_row row place = text_or_none (as_text (value_at row place))

abbrev pub is_own : List ℕ → Row → Bool
is_own user row = bytes_eq (text_in_row row 0) user

abbrev pub table_shown : Row → TableLine
table_shown row = record {
  user = text_in_row row 0;
  table = text_in_row row 1;
  cvd = text_in_row row 2;
  vids = text_in_row row 4;
}

abbrev pub tables_deed : Session → Option Dataset → Deed
tables_deed s stage =
    unless s (if_so (is_foreign stage_schema stage) no.ForeignRegistry)
    (tells s (says.Tables (map table_shown (filter (is_own s.user) (last_rows stage)))))

-- a checkout of one of its three kinds
abbrev pub checkout_by : World → Session → List ℕ → List ℕ → Option (List ℕ) → Option (List ℕ) → Deed
checkout_by w s cvd vids file None = checkout_deed s vids file cvd (set_named w cvd)
checkout_by w s cvd vids file (Some table) = stage_deed w s cvd table vids (set_named w stage_name) (set_named w cvd)

-- what a command means that no rule denies
abbrev pub permitted : World → Session → Command → Deed
permitted w s (asks.Init cvd schema file) = init_deed w s cvd schema file
permitted w s (asks.Checkout cvd vids file table) = checkout_by w s cvd vids file table
permitted w s (asks.Commit cvd vids file message added) = commit_deed w s cvd vids message (columns_of added) file (set_named w cvd)
permitted w s (asks.CommitStaged user table message) = commit_staged_deed w s user table message (set_named w stage_name)
permitted w s (asks.Optimize cvd p q) = optimize_deed s cvd p q (set_named w cvd)
permitted w s (asks.Migrate count) = migrate_by w s (next_steps count w)
permitted w s (asks.Layout cvd) = layout_deed s cvd (set_named w cvd)
permitted w s (asks.Log cvd) = log_deed s cvd (set_named w cvd)
permitted w s asks.Ls = tells s (says.Ls (map ls_line w.sets))
permitted w s (asks.DropCvd cvd) = drop_deed s cvd (set_named w cvd)
permitted w s asks.Checkpoint = checkpoint_deed w s
permitted w s (asks.Generate cvd seed rows versions) =
    unless s (init_refusal w cvd) (generate_by w s cvd (generated w.next cvd seed rows versions))
permitted w s (asks.CreateUser name) = create_user_deed w s name (set_named w users_name)
permitted w s (asks.Config name) = config_deed s name (set_named w users_name)
permitted w s asks.Whoami = tells s (says.Whoami s.user)
permitted w s (asks.Unstage user table) = unstage_deed w s user table (set_named w stage_name)
permitted w s asks.Tables = tables_deed s (set_named w stage_name)
permitted w s (asks.Run text) = run_deed w s (asked_of text)
permitted w s (asks.OptimizeWithin cvd budget) = within_deed s cvd budget (set_named w cvd)
permitted w s (asks.Advise cvd budget a b) = advise_deed s cvd budget a b (set_named w cvd)

abbrev pub deed : World → Session → Command → Deed
deed w s command = unless s (permit s.user command) (permitted w s command)

-- it is a refusal, or makes one move: the dataset of this name has rows of which this holds in place of those before
abbrev pub ChangesOnce : Session → List ℕ → Shape → Option Dataset → (List Row → Type 0) → Deed → Type 0
ChangesOnce s name schema before P d =
    ((refusal : Refusal) × (d ≡ refuses s refusal))
    ⊎ ((rows : List Row) × P rows × (d.moves ≡ change_of name schema (version_rows schema rows) before ∷ []))

-- this row more than the last version has
abbrev pub IsOneMore : Option Dataset → Row → List Row → Type 0
IsOneMore before row rows = rows ≡ with_row (last_rows before) row

-- the row of the session's user and this table more, which tells where it came from
abbrev pub IsStagedMore : World → Session → List ℕ → List ℕ → List ℕ → Option Dataset → List Row → Type 0
IsStagedMore w s cvd table vids before rows =
    (d : Dataset) × (set_named w cvd ≡ Some d) × IsOneMore before (table_row s.user table d.cvd.name d.cvd.number vids) rows

-- the rows of a user's own tables
abbrev pub own_rows : List ℕ → Option Dataset → List Row
own_rows user stage = filter (is_own user) (last_rows stage)

-- A commit of a staged table that goes on: the last version of `orpheus_stage` has the table's row, whose owner is the session's user,
-- and the commit is of the dataset and the versions that the row names.
pub record CommitsStaged (w : World) (s : Session) (user table message : List ℕ) (d : Deed) : Type 0 where
  pub row : Row
  pub there : table_in (last_rows (set_named w stage_name)) user table ≡ Some row
  pub named : user ≡ s.user
  pub owner : value_at row 0 ≡ Text s.user
  pub table_is : value_at row 1 ≡ Text table
  pub from : Dataset × List ℕ
  pub staged : staged_of w row ≡ Some from
  pub is : d ≡ commit_deed w s from.0.cvd.name from.1 message [] (file_of_table user table) (Some from.0)
