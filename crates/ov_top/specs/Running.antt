-- The lines of a script, served one after another.
--     Spent old new, IsReadWhole old new      what was taken of a script
--     AllServed steps w s files lines taken still result ..      where the store is at a World
--     ActsAfter lines user next      who may act behind these lines
--     ReadsDamage script stage s page      a line of the script asked for what is damaged at this page
--     StepsOnDamage steps script s page      a step behind a line of the script met what is
--     reads n user lines      how many bytes of pages these lines may fetch
--     status_by ran, status_by_opening off      the status
use Rattle.std.specs.Prelude.{◌≡◌, ◌⊎◌, ◌≤◌, ◌<◌, ◌+◌, ◌^◌, max, ℕ, Bool, true, false, List, [], ◌∷◌, ◌++◌, length, Result, Ok, Err, codes}
use Rattle.ov_model.specs.Forms.{all_forms}
use Rattle.ov_host.specs.declared.area.Area.TheVariants.{Pages}
use Rattle.ov_host.specs.declared.area.Extent.{Extent}
use Rattle.ov_host.specs.Host.{State}
use Rattle.ov_host.specs.Source.{Script}
use Rattle.ov_host.specs.Stage.{Files as Map, Staged}
use Rattle.ov_catalog.specs.Numbers.{Numbers}
use Rattle.ov_core.specs.Held.{Held, IsByJournal}
use Rattle.law_runs.specs.Serving.{Ends, Halts, Runs, session_of}
use Rattle.ov_model.specs.Act.{Session}
use Rattle.ov_model.specs.Line.{Asks, line_of}
use Rattle.ov_model.specs.Words.{lines_of}
use Rattle.ov_model.specs.World.{World}
use Rattle.ov_model.specs.declared.command.Command.{Command}
use Rattle.ov_open.specs.declared.errors.OpenErr.{OpenErr}
use Rattle.ov_open.specs.declared.errors.OpenErr.TheVariants as opening
use Rattle.ov_session.specs.Acting.{user_after}
use Rattle.ov_session.specs.Asking.{line_asked}
use Rattle.ov_session.specs.Bounds.{IsReading, may_fetch}
use Rattle.ov_session.specs.Commands.{IsDamaged, is_comment_in}
use Rattle.ov_session.specs.Reads.{Changes, Nothing, Once, Several, changes_of}
use Rattle.ov_session.specs.Stepping.{IsStepDamaged}
use Rattle.ov_session.specs.declared.serving.Served.{Served}
use Rattle.ov_session.specs.declared.serving.Served.TheVariants as served
use Rattle.ov_top.specs.declared.errors.RunErr.{RunErr}
use Rattle.ov_top.specs.declared.errors.RunErr.TheVariants as running
use Rattle.ov_top.specs.declared.status.Status.{Status}
use Rattle.ov_top.specs.declared.status.Status.TheVariants.{Done, Refused, HostFault, InputFault, Memory, NotAStore, Damaged, Format, ScriptTooLong}

-- whether the source tells its bytes stays as it was, its count of faults doesn't fall, and at most 2^32 bytes were taken
pub record Spent (old new : Script) : Type 0 where
  pub told : new.tells ≡ old.tells
  pub faults : old.faults ≤ new.faults
  pub taken : old.tells ≡ true → length old.left ≤ length new.left + 2 ^ 32

-- all of the script was taken, and it has fewer than 2^32 bytes
pub record IsReadWhole (old new : Script) : Type 0 where
  pub left : new.left ≡ []
  pub fewer : length old.left < 2 ^ 32

-- ---- who acts

-- a run begins as this user
abbrev pub user_of_run : List ℕ
user_of_run = codes "admin"

-- this user acts behind these lines of that one, where something came of each
abbrev pub ActsAfter : List (List ℕ) → List ℕ → List ℕ → Type 0
ActsAfter [] user next = next ≡ user
ActsAfter (line ∷ lines) user next = (what : Served) × ActsAfter lines (user_after (line_asked user line) what user) next

-- ---- the lines

-- it ended between two lines, when these were served; the stage then has these files, and someone acts who may behind these lines
abbrev pub IsHalted : ℕ → World → Session → Map → List (List ℕ) → List (List ℕ) → Held → State → State → Type 0
IsHalted steps w s files gone lines before old new =
    (now : Held) × (failed : Bool) × (user : List ℕ) × ActsAfter gone s.user user
    × Halts all_forms steps w s (session_of files user) gone lines failed before now old new

-- Of all the lines, those whose line feed was taken are `taken`. Where it was reading that failed, and the stage didn't fail
-- (`still`), just these were served.
abbrev pub AllServed : ℕ → World → Session → Map → List (List ℕ) → List (List ℕ) → Type 0 → Result Bool RunErr → Held → State → State → Type 0
AllServed steps w s files lines taken still (Ok failed) before old new =
    (now : Held) × (user : List ℕ) × ActsAfter lines s.user user × Ends all_forms steps w s (session_of files user) lines failed before now old new
AllServed steps w s files lines taken still (Err (running.Damaged area at)) before old new = ⊥
AllServed steps w s files lines taken still (Err running.Input) before old new =
    Runs all_forms steps w s lines before old new × (still → IsHalted steps w s files taken lines before old new)
AllServed steps w s files lines taken still (Err running.TooLong) before old new = IsHalted steps w s files taken lines before old new
AllServed steps w s files lines taken still (Err _) before old new = Runs all_forms steps w s lines before old new

-- ---- damage

-- one of the lines of a text
abbrev pub IsLineOf : List ℕ → List ℕ → Type 0
IsLineOf text line = (before : List (List ℕ)) × (after : List (List ℕ)) × (lines_of text ≡ before ++ line ∷ after)

-- what the store kept before a command that met damage: what it keeps, but of a command that may make several changes
abbrev pub IsKeptBefore : Changes → Held → Held → Type 0
IsKeptBefore Nothing entry held = entry ≡ held
IsKeptBefore Once entry held = entry ≡ held
IsKeptBefore Several entry held = Unit {0}

-- A line of the script asked for what is damaged at this page, of the user who acts behind the lines before it, by the numbers that the
-- journal on the host says (of a `generate` with the versions that it made before, of what was kept at its entry; of a `migrate` with
-- its steps), and by the files of the stage, where it tells them.
pub record ReadsDamage (script : Script) (stage : Staged) (s : State) (page : ℕ) : Type 0 where
  pub before : List (List ℕ)
  pub line : List ℕ
  pub among : script.tells ≡ true → (after : List (List ℕ)) × (lines_of script.left ≡ before ++ line ∷ after)
  pub user : List ℕ
  pub acts : ActsAfter before user_of_run user
  pub command : Command
  pub asks : line_asked user line ≡ Asks command
  pub held : Held
  pub numbers : s.tells ≡ true → IsByJournal held s
  pub entry : Held
  pub kept : IsKeptBefore (changes_of command) entry held
  pub damaged : IsDamaged user command stage entry held s page

-- a line of a text has a reply, whoever asks it
abbrev pub HasReply : List ℕ → Type 0
HasReply text = (line : List ℕ) × IsLineOf text line × (is_comment_in (line_of all_forms line) ≡ false)

-- a step that was asked for, behind a line that has a reply, met what is damaged at this page, by the same numbers
pub record StepsOnDamage (steps : ℕ) (script : Script) (s : State) (page : ℕ) : Type 0 where
  pub behind : script.tells ≡ true → HasReply script.left
  pub held : Held
  pub numbers : s.tells ≡ true → IsByJournal held s
  pub damaged : IsStepDamaged steps held s page

abbrev pub MeetsDamage : ℕ → Script → Staged → State → ℕ → Type 0
MeetsDamage steps script stage s page = ReadsDamage script stage s page ⊎ StepsOnDamage steps script s page

abbrev pub IsRunDamage : ℕ → Script → Staged → State → RunErr → Type 0
IsRunDamage steps script stage s (running.Damaged area at) = (area ≡ Pages) × MeetsDamage steps script stage s at
IsRunDamage steps script stage s _ = Unit {0}

abbrev pub IsUnharmed : RunErr → Type 0
IsUnharmed (running.Damaged area at) = ⊥
IsUnharmed _ = Unit {0}

-- ---- reads

-- lines that change no store, the first one of this user, whatever comes of those before
abbrev pub AreReading : List ℕ → List (List ℕ) → Type 0
AreReading user [] = Unit {0}
AreReading user (line ∷ lines) =
    IsReading (line_asked user line) × ((what : Served) → AreReading (user_after (line_asked user line) what user) lines)

-- how much they may fetch, whether the user stays or a line makes another one the user
abbrev pub reads : Numbers Extent Extent → List ℕ → List (List ℕ) → ℕ
reads n user [] = 0
reads n user (line ∷ lines) =
    may_fetch n user (line_asked user line) + max (reads n user lines) (reads n (user_after (line_asked user line) served.Done user) lines)

abbrev pub status_by : Result Bool RunErr → Status
status_by (Ok false) = Done
status_by (Ok true) = Refused
status_by (Err running.Host) = HostFault
status_by (Err running.Input) = InputFault
status_by (Err running.Memory) = Memory
status_by (Err (running.Damaged area at)) = Damaged area at
status_by (Err running.TooLong) = ScriptTooLong

abbrev pub status_by_opening : OpenErr → Status
status_by_opening opening.Host = HostFault
status_by_opening opening.Memory = Memory
status_by_opening opening.NotAStore = NotAStore
status_by_opening (opening.Format found) = Format found
status_by_opening (opening.Damaged area at) = Damaged area at
