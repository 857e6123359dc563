-- Who may do what: four rules, by the user and the command alone.
--     names command      what a command names, by which the rules know it
--     permit user command      the refusal by the least rule that denies; a `run` is denied by its datasets' names alone
--     permit_names user names      the same of a query or join that names these datasets
--     line_by user line      what a line says of this user: a command that a rule denies is refused
use Rattle.std.specs.Prelude.{◌≡◌, ℕ, zero, suc, ◌+◌, Bool, true, false, not, ◌&&◌, ◌||◌, nat_eq, if◌then◌else◌, List, [], ◌∷◌, Option, Some, None, is_some, codes}
use Rattle.std.specs.List.{list_any, starts_with, ends_with}
use Rattle.std.specs.Str.{bytes_eq}
use Rattle.ov_model.specs.Line.{Line, Comment, Asks, Refused}
use Rattle.ov_model.specs.declared.command.Command.{Command}
use Rattle.ov_model.specs.declared.command.Command.TheVariants as asks
use Rattle.ov_model.specs.declared.refusal.Refusal.{Refusal}
use Rattle.ov_model.specs.declared.refusal.Refusal.TheVariants as no

abbrev pub is_admin : List ℕ → Bool
is_admin user = bytes_eq user (codes "admin")

-- datasets whose names begin so are the store's own
abbrev pub is_reserved : List ℕ → Bool
is_reserved cvd = starts_with nat_eq cvd (codes "orpheus_")

-- files whose names end so are those of staged tables
abbrev pub is_staged_file : List ℕ → Bool
is_staged_file file = ends_with nat_eq file (codes ".staged")

-- whether there is such a text, and it passes the test
abbrev pub passes : (List ℕ → Bool) → Option (List ℕ) → Bool
passes test None = false
passes test (Some text) = test text

-- ---- what a command names

-- By this alone the rules know a command: its dataset, the user with whose name its staged table begins, the file of its option
-- `-f`, whether it makes a user, and whether not even `admin` does it to a dataset of the store's own, since it makes or changes the
-- dataset or stages a table of it.
pub record Names : Type 0 where
  pub cvd : Option (List ℕ)
  pub owner : Option (List ℕ)
  pub file : Option (List ℕ)
  pub makes_user : Bool
  pub for_nobody : Bool

abbrev pub nothing_named : Names
nothing_named = record { cvd = None; owner = None; file = None; makes_user = false; for_nobody = false }

-- of the dataset alone
abbrev pub naming : List ℕ → Names
naming cvd = record nothing_named { cvd = Some cvd }

-- one row for each command, whether it is built or not; a `run` is denied by its datasets' names alone, and no sooner
abbrev pub names : Command → Names
names (asks.Init cvd schema file) = record (naming cvd) { file = Some file; for_nobody = true }
names (asks.Checkout cvd vids file table) = record (naming cvd) { file = file; for_nobody = is_some table }
names (asks.Commit cvd vids file message added) = record (naming cvd) { file = Some file; for_nobody = true }
names (asks.CommitStaged user table message) = record nothing_named { owner = Some user }
names (asks.Run text) = nothing_named
names (asks.Optimize cvd p q) = naming cvd
names (asks.OptimizeWithin cvd budget) = naming cvd
names (asks.Advise cvd budget a b) = naming cvd
names (asks.Migrate count) = nothing_named
names (asks.Layout cvd) = naming cvd
names (asks.Log cvd) = naming cvd
names asks.Ls = nothing_named
names (asks.DropCvd cvd) = record (naming cvd) { for_nobody = true }
names asks.Checkpoint = nothing_named
names (asks.Generate cvd seed rows versions) = record (naming cvd) { for_nobody = true }
names (asks.CreateUser name) = record nothing_named { makes_user = true }
names (asks.Config name) = nothing_named
names asks.Whoami = nothing_named
names (asks.Unstage user table) = record nothing_named { owner = Some user }
names asks.Tables = nothing_named

-- ---- the rules

abbrev pub Rule : Type 0
Rule = List ℕ → Command → Bool

-- whether each rule denies: users are made by `admin` alone; a staged table is its user's; no `-f` names a staged table's file;
-- a dataset of the store's own is for `admin` alone, and some commands on it are for nobody
abbrev pub admin_makes_users : Rule
admin_makes_users user command = (names command).makes_user && not (is_admin user)

abbrev pub tables_are_their_users : Rule
tables_are_their_users user command = passes (λ owner. not (bytes_eq owner user)) (names command).owner

abbrev pub staged_files_are_kept : Rule
staged_files_are_kept user command = passes is_staged_file (names command).file

abbrev pub reserved_are_kept : Rule
reserved_are_kept user command = passes is_reserved (names command).cvd && (not (is_admin user) || (names command).for_nobody)

abbrev pub rules : List Rule
rules = admin_makes_users ∷ tables_are_their_users ∷ staged_files_are_kept ∷ reserved_are_kept ∷ []

-- the first of these rules, numbered from `nth` on, that denies
abbrev pub denied_from : ℕ → List Rule → List ℕ → Command → Option Refusal
denied_from nth [] user command = None
denied_from nth (rule ∷ later) user command =
    if rule user command then Some (no.Denied nth) else denied_from (nth + 1) later user command

abbrev pub permit : List ℕ → Command → Option Refusal
permit user command = denied_from 1 rules user command

abbrev pub permit_names : List ℕ → List (List ℕ) → Option Refusal
permit_names user names = if list_any is_reserved names && not (is_admin user) then Some (no.Denied 4) else None

abbrev pub unless_denied : Option Refusal → Command → Line
unless_denied None command = Asks command
unless_denied (Some refusal) command = Refused refusal

abbrev pub line_by : List ℕ → Line → Line
line_by user Comment = Comment
line_by user (Asks command) = unless_denied (permit user command) command
line_by user (Refused refusal) = Refused refusal

-- rule `nth`, counted from 1, is the first of these that denies
abbrev pub IsLeast : List Rule → ℕ → List ℕ → Command → Type 0
IsLeast [] nth user command = ⊥
IsLeast (rule ∷ later) zero user command = ⊥
IsLeast (rule ∷ later) (suc zero) user command = rule user command ≡ true
IsLeast (rule ∷ later) (suc (suc nth)) user command = (rule user command ≡ false) × IsLeast later (suc nth) user command

-- none of these denies
abbrev pub AreSilent : List Rule → List ℕ → Command → Type 0
AreSilent [] user command = Unit {0}
AreSilent (rule ∷ later) user command = (rule user command ≡ false) × AreSilent later user command

-- A `run` is denied by the names in its text, and no sooner.
abbrev pub is_run : Command → Bool
is_run (asks.Run text) = true
is_run _ = false
