-- What serving a command keeps to.
--     IsServed user next command result ..      of a command of this user; who acts behind it is `next`. The store keeps `before` and
--                                               `now`, the stage is seen as `stage` and `staged`, the host as `old` and `new`
--     IsServedAlone ..      the same, of a command that leaves the stage alone
--     IsOfFile command      it may have to do with a file of the stage
use Rattle.std.specs.Prelude.{◌≡◌, ℕ, true, false, List, None, Result, IfErr, IfOk, IsErrOf, OnOk}
use Rattle.ov_core.specs.AtWorld.{IsAtWorld}
use Rattle.ov_core.specs.Held.{IsByJournal}
use Rattle.ov_host.specs.Host.{Rose, State}
use Rattle.ov_host.specs.Stage.{Staged}
use Rattle.law_runs.specs.Serving.{session_of}
use Rattle.law_steps.specs.Turns.{running}
use Rattle.ov_model.specs.Deed.{permitted}
use Rattle.ov_model.specs.World.{World}
use Rattle.ov_model.specs.declared.command.Command.{Command}
use Rattle.ov_model.specs.declared.command.Command.TheVariants as asks
use Rattle.ov_model.specs.declared.reply.Reply.{Reply}
use Rattle.ov_store.specs.Kept.{Kept, MayCall}
use Rattle.ov_session.specs.Bounds.{IsFetched, IsReadingCommand, is_command_off}
use Rattle.ov_session.specs.Commands.{Acts, Attended, Goes, IfNoFile, IsDamageOf, IsDamaged, IsNoDamage, MeetsDamage}
use Rattle.ov_session.specs.Standing.{IsAtSilently, IsIdleBy}
use Rattle.ov_session.specs.Stepping.{begins_plan}
use Rattle.ov_session.specs.declared.errors.EndErr.{EndErr}
use Rattle.ov_session.specs.declared.errors.EndErr.TheVariants as ending

pub record IsServed (user next : List ℕ) (command : Command) (result : Result Reply EndErr) (before now : Kept) (stage staged : Staged)
    (old new : State) : Type 0 where
  pub goes : Goes old new
  pub attended : Attended stage staged
  -- what it reads
  pub still : IsReadingCommand command → now.held ≡ before.held
  pub fetched : IsFetched user command before.held now.held (IsErrOf result ending.Host) old new
  pub unread : is_command_off before.held.numbers user command ≡ true → new.fetched ≡ old.fetched
  -- why it ends
  pub cause : IsErrOf result ending.Host → Rose old.faults new.faults
  pub stage_cause : IsErrOf result ending.Stage → Rose stage.faults staged.faults
  pub damaged : IfErr result (IsDamageOf (IsDamaged user command stage before.held now.held new))
  pub undamaged : (w : World) → IsAtWorld w before.held old → IfErr result IsNoDamage
  pub whole : (page : ℕ) → old.tells ≡ true → OnOk result (MeetsDamage user command stage before.held old page → ⊥)
  pub missed : IfOk result (IfNoFile (Rose stage.misses staged.misses))
  -- where it leaves the store
  pub idle : IfErr result (λ why. IsIdleBy command why before now stage staged old new)
  pub begins_none : begins_plan before.held.numbers command ≡ false → running before.held.numbers ≡ None → OnOk result (running now.held.numbers ≡ None)
  pub usable : OnOk result (MayCall now new)
  pub by_journal : IsByJournal before.held old → (IsErrOf result ending.Host → ⊥) → IsByJournal now.held new
  pub at : (w : World) → IsAtWorld w before.held old → OnOk result (IsAtSilently now.held old new)
  -- what it does
  pub acts : (w : World) → stage.tells ≡ true → IsAtWorld w before.held old
      → Acts (permitted w (session_of stage.files user) command) (session_of stage.files user) (session_of staged.files next) w result
      before.held now.held old new

abbrev pub IsServedAlone : List ℕ → List ℕ → Command → Result Reply EndErr → Kept → Kept → State → State → Type 0
IsServedAlone user next command result before now old new =
    (stage : Staged) → IsServed user next command result before now stage stage old new

abbrev pub IsOfFile : Command → Type 0
IsOfFile (asks.Init cvd schema file) = Unit {0}
IsOfFile (asks.Checkout cvd vids file table) = Unit {0}
IsOfFile (asks.Commit cvd vids file message added) = Unit {0}
IsOfFile (asks.CommitStaged owner table message) = Unit {0}
IsOfFile command = ⊥
