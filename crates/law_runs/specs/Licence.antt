-- Which refusals for room a run may meet.
--     made_by w items      the moves among these, each with the World before it
--     Licensed entry before forms steps w s lines space      each attempt of the course that is refused may be
use Rattle.std.specs.Prelude.{ℕ, zero, suc, List, [], ◌∷◌, ◌++◌, Option, Some, None}
use Rattle.ov_model.specs.Act.{Session}
use Rattle.ov_model.specs.Deed.{deed}
use Rattle.ov_model.specs.Course.{Item, Makes, Says, Room, Enough, NoRun, Full, Space, Served, attempts, first, rest, served}
use Rattle.ov_model.specs.Forms.{Form}
use Rattle.ov_model.specs.Line.{Line, Comment, Asks, Refused, line_of}
use Rattle.ov_model.specs.Moves.{Move, moved}
use Rattle.ov_model.specs.Steps.{next_step}
use Rattle.ov_model.specs.World.{World}
use Rattle.law_room.specs.Room.{Entry, Made, LacksRun, LacksRecord}

abbrev pub made_by : World → List Item → List Made
made_by w [] = []
made_by w (Makes m ∷ items) = record { move = m; world = w } ∷ made_by (moved m w) items
made_by w (Says reply ∷ items) = made_by w items

-- of one attempt, where these moves came before, and of those after it, where it takes place
abbrev pub LicensedRoom : Entry → List Made → Move → World → Type 0 → Room → Type 0
LicensedRoom entry before m w more Enough = more
LicensedRoom entry before m w more (NoRun pages) = LacksRun entry before m w pages
LicensedRoom entry before m w more Full = LacksRecord entry before m w

-- of a command's moves
abbrev pub LicensedMoves : Entry → List Made → List Move → World → Space → Type 0
LicensedMoves entry before [] w space = Unit {0}
LicensedMoves entry before (m ∷ ms) w space =
    LicensedRoom entry before m w (LicensedMoves entry (before ++ record { move = m; world = w } ∷ []) ms (moved m w) (rest space)) (first space)

-- of the steps after it
abbrev pub LicensedStep : (List Made → World → Space → Type 0) → Entry → List Made → World → Space → Option Move → Type 0
LicensedStep more entry before w space None = Unit {0}
LicensedStep more entry before w space (Some m) =
    LicensedRoom entry before m w (more (before ++ record { move = m; world = w } ∷ []) (moved m w) (rest space)) (first space)

abbrev pub LicensedSteps : ℕ → Entry → List Made → World → Space → Type 0
LicensedSteps zero entry before w space = Unit {0}
LicensedSteps (suc n) entry before w space = LicensedStep (LicensedSteps n entry) entry before w space (next_step w)

abbrev pub LicensedAfter : ℕ → Entry → List Made → World → Served → Type 0
LicensedAfter n entry before w done = LicensedSteps n entry (before ++ made_by w done.items) done.world done.left

abbrev pub LicensedLine : ℕ → Entry → List Made → World → Session → Space → Line → Type 0
LicensedLine n entry before w s space Comment = Unit {0}
LicensedLine n entry before w s space (Asks command) =
    LicensedMoves entry before (deed w s command).moves w space
    × LicensedAfter n entry before w (attempts (deed w s command) s 0 (deed w s command).moves w space)
LicensedLine n entry before w s space (Refused refusal) = LicensedSteps n entry before w space

abbrev pub Licensed : Entry → List Made → List Form → ℕ → World → Session → List (List ℕ) → Space → Type 0
Licensed entry before forms n w s [] space = Unit {0}
Licensed entry before forms n w s (line ∷ lines) space =
    LicensedLine n entry before w s space (line_of forms line)
    × Licensed entry (before ++ made_by w (served forms n w s line space).items) forms n
    (served forms n w s line space).world (served forms n w s line space).session lines (served forms n w s line space).left
