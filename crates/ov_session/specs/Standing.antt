-- Where a line leaves the store.
--     IsAtSome held s      the store is at some World
--     IsAtSilently held old new      it is, and nothing was printed since
--     IsIdle why ..      damage and a fault of the stage are met before anything is changed
--     IsIdleBehind why ..      damage is, and a fault of the stage behind the change
--     IsIdleOn line why ..      so it is by the command's row; a `generate`, which may have made versions before, and a `migrate`, which
--                               may have taken steps, leave the stage alone
use Rattle.std.specs.Prelude.{◌≡◌}
use Rattle.ov_host.specs.Host.{State}
use Rattle.ov_host.specs.Stage.{Staged}
use Rattle.ov_core.specs.AtWorld.{IsAtWorld}
use Rattle.ov_core.specs.Held.{Held}
use Rattle.ov_fetch.specs.Extents.{Looked}
use Rattle.ov_model.specs.Line.{Line, Asks}
use Rattle.ov_model.specs.World.{World}
use Rattle.ov_model.specs.declared.command.Command.{Command}
use Rattle.ov_store.specs.Changes.{Bringing, IsDone}
use Rattle.ov_store.specs.Kept.{Kept}
use Rattle.ov_session.specs.Reads.{Changes, Nothing, Once, Several, File, Unused, Taken, Given, GivenBehind, changes_of, file_of}
use Rattle.ov_session.specs.declared.errors.EndErr.{EndErr}
use Rattle.ov_session.specs.declared.errors.EndErr.TheVariants as ending
use Rattle.law_runs.specs.Stops.{printed_of}

abbrev pub IsAtSome : Held → State → Type 0
IsAtSome held s = (w : World) × IsAtWorld w held s

pub record IsAtSilently (held : Held) (old new : State) : Type 0 where
  pub at : IsAtSome held new
  pub printed : printed_of new ≡ printed_of old

-- the store is as it was, and the host was at most looked at
pub record Idle (before now : Kept) (old new : State) : Type 0 where
  pub store : now ≡ before
  pub looked : Looked old new

-- where damage was met, the stage's files too are as they were
abbrev pub IsIdle : EndErr → Kept → Kept → Staged → Staged → State → State → Type 0
IsIdle (ending.Damaged area at) before now stage staged old new = Idle before now old new × (staged.files ≡ stage.files)
IsIdle ending.Stage before now stage staged old new = Idle before now old new
IsIdle _ before now stage staged old new = Unit {0}

-- a `generate` and a `migrate` don't call the stage
abbrev pub IsUnstaged : EndErr → Staged → Staged → Type 0
IsUnstaged (ending.Damaged area at) stage staged = staged.files ≡ stage.files
IsUnstaged ending.Stage stage staged = ⊥
IsUnstaged _ stage staged = Unit {0}

-- where the stage failed behind a change, the change was made
pub record IsBehindIt (before now : Kept) : Type 0 where
  pub brought : Bringing
  pub done : IsDone brought before.held now.held

abbrev pub IsIdleBehind : EndErr → Kept → Kept → Staged → Staged → State → State → Type 0
IsIdleBehind (ending.Damaged area at) before now stage staged old new = Idle before now old new × (staged.files ≡ stage.files)
IsIdleBehind ending.Stage before now stage staged old new = IsBehindIt before now
IsIdleBehind ending.Host before now stage staged old new = Unit {0}
IsIdleBehind ending.Memory before now stage staged old new = Unit {0}

abbrev pub IsIdleFor : File → EndErr → Kept → Kept → Staged → Staged → State → State → Type 0
IsIdleFor Unused why before now stage staged old new = IsIdle why before now stage staged old new
IsIdleFor Taken why before now stage staged old new = IsIdle why before now stage staged old new
IsIdleFor Given why before now stage staged old new = IsIdle why before now stage staged old new
IsIdleFor GivenBehind why before now stage staged old new = IsIdleBehind why before now stage staged old new

abbrev pub IsIdleOf : Changes → File → EndErr → Kept → Kept → Staged → Staged → State → State → Type 0
IsIdleOf Nothing file why before now stage staged old new = IsIdleFor file why before now stage staged old new
IsIdleOf Once file why before now stage staged old new = IsIdleFor file why before now stage staged old new
IsIdleOf Several file why before now stage staged old new = IsUnstaged why stage staged

abbrev pub IsIdleBy : Command → EndErr → Kept → Kept → Staged → Staged → State → State → Type 0
IsIdleBy command why before now stage staged old new = IsIdleOf (changes_of command) (file_of command) why before now stage staged old new

abbrev pub IsIdleOn : Line → EndErr → Kept → Kept → Staged → Staged → State → State → Type 0
IsIdleOn (Asks command) why before now stage staged old new = IsIdleBy command why before now stage staged old new
IsIdleOn line why before now stage staged old new = IsIdle why before now stage staged old new
