-- Room for all that a run attempts, by what the store had at its entry and by the moves before.
--     HasRoom entry before m w      no run and no record may be wanting for the move, after these
--     LinesHaveRoom entry before forms n w s lines      each move of a script's course has room, where each before it took place
use Rattle.std.specs.Prelude.{ℕ, zero, suc, List, [], ◌∷◌, ◌++◌, Option, Some, None}
use Rattle.law_room.specs.Room.{Entry, Made, LacksRecord, LacksRun}
use Rattle.law_runs.specs.Licence.{made_by}
use Rattle.ov_model.specs.Act.{Session}
use Rattle.ov_model.specs.Course.{Served, attempts, served}
use Rattle.ov_model.specs.Deed.{deed}
use Rattle.ov_model.specs.Forms.{Form}
use Rattle.ov_model.specs.Line.{Line, Comment, Asks, Refused, line_of}
use Rattle.ov_model.specs.Moves.{Move, moved}
use Rattle.ov_model.specs.Steps.{next_step}
use Rattle.ov_model.specs.World.{World}

pub record HasRoom (entry : Entry) (before : List Made) (m : Move) (w : World) : Type 0 where
  pub runs : (pages : ℕ) → LacksRun entry before m w pages → ⊥
  pub record_fits : LacksRecord entry before m w → ⊥

-- of a command's moves
abbrev pub MovesHaveRoom : Entry → List Made → List Move → World → Type 0
MovesHaveRoom entry before [] w = Unit {0}
MovesHaveRoom entry before (m ∷ ms) w =
    HasRoom entry before m w × MovesHaveRoom entry (before ++ record { move = m; world = w } ∷ []) ms (moved m w)

-- of the steps behind it
abbrev pub StepHasRoom : (List Made → World → Type 0) → Entry → List Made → World → Option Move → Type 0
StepHasRoom more entry before w None = Unit {0}
StepHasRoom more entry before w (Some m) = HasRoom entry before m w × more (before ++ record { move = m; world = w } ∷ []) (moved m w)

abbrev pub StepsHaveRoom : ℕ → Entry → List Made → World → Type 0
StepsHaveRoom zero entry before w = Unit {0}
StepsHaveRoom (suc n) entry before w = StepHasRoom (StepsHaveRoom n entry) entry before w (next_step w)

abbrev pub BehindHasRoom : ℕ → Entry → List Made → World → Served → Type 0
BehindHasRoom n entry before w done = StepsHaveRoom n entry (before ++ made_by w done.items) done.world

abbrev pub LineHasRoom : ℕ → Entry → List Made → World → Session → Line → Type 0
LineHasRoom n entry before w s Comment = Unit {0}
LineHasRoom n entry before w s (Asks command) =
    MovesHaveRoom entry before (deed w s command).moves w
    × BehindHasRoom n entry before w (attempts (deed w s command) s 0 (deed w s command).moves w [])
LineHasRoom n entry before w s (Refused refusal) = StepsHaveRoom n entry before w

abbrev pub LinesHaveRoom : Entry → List Made → List Form → ℕ → World → Session → List (List ℕ) → Type 0
LinesHaveRoom entry before forms n w s [] = Unit {0}
LinesHaveRoom entry before forms n w s (line ∷ lines) =
    LineHasRoom n entry before w s (line_of forms line)
    × LinesHaveRoom entry (before ++ made_by w (served forms n w s line []).items) forms n
    (served forms n w s line []).world (served forms n w s line []).session lines
