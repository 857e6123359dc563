-- The commands on users and staged tables, which leave the stage alone.
--     next_by user name result      who acts behind a `config`
--     IsRegistered user next command result ..      what serving one keeps to; who acts behind it is `next`
use Rattle.std.specs.Prelude.{◌≡◌, ℕ, true, List, Some, Result, Ok, Err, IfErr, IfOk, IsErrOf, None, OnOk}
use Rattle.ov_core.specs.AtWorld.{IsAtWorld}
use Rattle.ov_core.specs.Held.{IsByJournal}
use Rattle.ov_host.specs.Host.{Rose, State}
use Rattle.ov_host.specs.Stage.{Staged}
use Rattle.ov_model.specs.Act.{Files}
use Rattle.ov_model.specs.Deed.{permitted}
use Rattle.ov_model.specs.World.{World}
use Rattle.ov_model.specs.declared.command.Command.{Command}
use Rattle.ov_model.specs.declared.reply.Reply.{Reply}
use Rattle.ov_store.specs.Kept.{Kept, MayCall}
use Rattle.law_steps.specs.Turns.{running}
use Rattle.ov_session.specs.Acting.{kind_of, user_by}
use Rattle.ov_session.specs.Bounds.{IsFetched, IsReadingCommand, is_command_off}
use Rattle.ov_session.specs.Commands.{Acts, Goes, IfDamaged, IfNoFile, IsDamageOf, IsDamaged, IsNoDamage, MeetsDamage}
use Rattle.ov_session.specs.Standing.{Idle, IsAtSilently}
use Rattle.ov_session.specs.declared.errors.EndErr.{EndErr}
use Rattle.ov_session.specs.declared.errors.EndErr.TheVariants as ending

-- whom the reply to a `config` makes the user
abbrev pub next_by : List ℕ → List ℕ → Result Reply EndErr → List ℕ
next_by user name (Ok reply) = user_by (Some name) (kind_of reply) user
next_by user name (Err why) = user

pub record IsRegistered (user next : List ℕ) (command : Command) (result : Result Reply EndErr) (before now : Kept) (old new : State) : Type 0 where
  pub goes : Goes old new
  pub still : IsReadingCommand command → now.held ≡ before.held
  pub fetched : IsFetched user command before.held now.held (IsErrOf result ending.Host) old new
  pub unread : is_command_off before.held.numbers user command ≡ true → new.fetched ≡ old.fetched
  pub cause : IsErrOf result ending.Host → Rose old.faults new.faults
  pub host_alone : IsErrOf result ending.Stage → ⊥
  pub damaged : (stage : Staged) → IfErr result (IsDamageOf (IsDamaged user command stage before.held now.held new))
  pub begins_none : running before.held.numbers ≡ None → OnOk result (running now.held.numbers ≡ None)
  pub whole : (stage : Staged) (page : ℕ) → old.tells ≡ true → OnOk result (MeetsDamage user command stage before.held old page → ⊥)
  pub usable : OnOk result (MayCall now new)
  pub by_journal : IsByJournal before.held old → (IsErrOf result ending.Host → ⊥) → IsByJournal now.held new
  pub idle : IfErr result (IfDamaged (Idle before now old new))
  pub undamaged : (w : World) → IsAtWorld w before.held old → IfErr result IsNoDamage
  pub at : (w : World) → IsAtWorld w before.held old → OnOk result (IsAtSilently now.held old new)
  pub seen : IfOk result (IfNoFile ⊥)
  pub acts : (w : World) (files : Files) → IsAtWorld w before.held old
      → Acts (permitted w (record { files = files; user = user }) command) (record { files = files; user = user }) (record { files = files; user = next }) w
      result before.held now.held old new
