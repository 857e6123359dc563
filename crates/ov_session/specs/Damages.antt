-- What met damage: the command of a line, or a step behind its reply.
--     IsLineDamaged user line ..      the line asks for a command, and what it reads is damaged
--     IsMetBy steps user line ..      that was met before the line was answered, or a step's damage once it was
use Rattle.std.specs.Prelude.{◌≡◌, ◌⊎◌, ℕ, false, List}
use Rattle.ov_host.specs.declared.area.Area.TheVariants.{Pages}
use Rattle.ov_host.specs.Host.{State}
use Rattle.ov_host.specs.Stage.{Staged}
use Rattle.ov_core.specs.Held.{Held}
use Rattle.ov_model.specs.Line.{Line, Asks}
use Rattle.ov_model.specs.declared.command.Command.{Command}
use Rattle.ov_store.specs.Kept.{Kept}
use Rattle.ov_session.specs.Commands.{IsDamaged, is_comment_of}
use Rattle.ov_session.specs.Replying.{IsReplied}
use Rattle.ov_session.specs.Standing.{IsIdleOn}
use Rattle.ov_session.specs.Stepping.{IsStepDamaged}
use Rattle.ov_session.specs.declared.errors.EndErr.TheVariants as ending
use Rattle.ov_session.specs.declared.serving.Served.{Served}

abbrev pub IsLineDamaged : List ℕ → Line → Staged → Held → Held → State → ℕ → Type 0
IsLineDamaged user line stage before now s page =
    (command : Command) × (line ≡ Asks command) × IsDamaged user command stage before now s page

-- the command's: then nothing was changed, or of a `generate` versions were made before it and of a `migrate` steps were taken, and
-- the stage's files are as they were
pub record IsCommandMet (user : List ℕ) (line : Line) (before now : Kept) (stage staged : Staged) (old new : State) (page : ℕ) : Type 0 where
  pub damaged : IsLineDamaged user line stage before.held now.held new page
  pub idle : IsIdleOn line (ending.Damaged Pages page) before now stage staged old new

-- a step's: the line was answered before
pub record IsStepMet (steps : ℕ) (line : Line) (before now : Kept) (stage staged : Staged) (old new : State) (page : ℕ) : Type 0 where
  pub damaged : IsStepDamaged steps now.held new page
  pub served : Served
  pub some : is_comment_of served ≡ false
  pub replied : IsReplied steps line served before.held stage staged old new

abbrev pub IsMetBy : ℕ → List ℕ → Line → Kept → Kept → Staged → Staged → State → State → ℕ → Type 0
IsMetBy steps user line before now stage staged old new page =
    IsCommandMet user line before now stage staged old new page ⊎ IsStepMet steps line before now stage staged old new page
