-- Where there is room for all that is attempted, no answer for room that is licensed refuses anything.
use Rattle.std.proofs.Common.{◌≡◌, ◌+◌, ℕ, zero, suc, List, [], ◌∷◌, ◌++◌, refl, sym, ◌∙◌, ap, subst}
use Rattle.std.specs.Prelude.{Option, Some, None}
use Rattle.law_complete.specs.Room.{BehindHasRoom, HasRoom, LineHasRoom, LinesHaveRoom, MovesHaveRoom, StepHasRoom, StepsHaveRoom}
use Rattle.law_room.specs.Room.{Entry, Made}
use Rattle.law_runs.specs.Licence.{Licensed, LicensedAfter, LicensedLine, LicensedMoves, LicensedRoom, LicensedStep, LicensedSteps, made_by}
use Rattle.ov_model.specs.Act.{Deed, Session}
use Rattle.ov_model.specs.Course.{Enough, Full, Item, Makes, NoRun, Room, Served, Space, after, and_steps, attempt, attempts, course, first, line_served, replied, rest, served, step_by, steps, steps_then, try_step}
use Rattle.ov_model.specs.Deed.{deed}
use Rattle.ov_model.specs.Forms.{Form}
use Rattle.ov_model.specs.Line.{Asks, Comment, Line, Refused, line_of}
use Rattle.ov_model.specs.Moves.{Move, moved}
use Rattle.ov_model.specs.Replies.{reply_text}
use Rattle.ov_model.specs.Steps.{next_step}
use Rattle.ov_model.specs.World.{World}
use Rattle.ov_model.specs.declared.refusal.Refusal.{Refusal}
use Rattle.ov_model.specs.declared.reply.Reply.TheVariants as says

-- what came of something, with no answer left
abbrev spent : Served → Served
spent done = record done { left = [] }

-- ---- one attempt

attempt_roomy : (room : Room) (entry : Entry) (before : List Made) (m : Move) (w : World) (s : Session) (told : Option (ℕ × ℕ)) (space : Space)
    (more full : Served) (Licence : Type 0) → HasRoom entry before m w → LicensedRoom entry before m w Licence room
    → (Licence → spent more ≡ full) → spent (attempt room told w s space more) ≡ full
attempt_roomy Enough entry before m w s told space more full Licence has licensed same = same licensed
attempt_roomy (NoRun pages) entry before m w s told space more full Licence has licensed same = absurd (has.runs pages licensed)
attempt_roomy Full entry before m w s told space more full Licence has licensed same = absurd (has.record_fits licensed)

step_roomy : (room : Room) (entry : Entry) (before : List Made) (m : Move) (w : World) (s : Session) (space : Space)
    (more full : Served) (Licence : Type 0) → HasRoom entry before m w → LicensedRoom entry before m w Licence room
    → (Licence → spent more ≡ full) → spent (try_step room w s space more) ≡ full
step_roomy Enough entry before m w s space more full Licence has licensed same = same licensed
step_roomy (NoRun pages) entry before m w s space more full Licence has licensed same = absurd (has.runs pages licensed)
step_roomy Full entry before m w s space more full Licence has licensed same = absurd (has.record_fits licensed)

-- ---- a command's moves

moves_roomy : (entry : Entry) (before : List Made) (d : Deed) (s : Session) (taken : ℕ) (ms : List Move) (w : World) (space : Space)
    → MovesHaveRoom entry before ms w → LicensedMoves entry before ms w space → spent (attempts d s taken ms w space) ≡ attempts d s taken ms w []
moves_roomy entry before d s taken [] w space have licensed = refl
moves_roomy entry before d s taken (m ∷ ms) w space have licensed =
    let past : List Made = before ++ record { move = m; world = w } ∷ []
    in attempt_roomy (first space) entry before m w s (steps_then d.counts_steps taken w) (rest space)
    (after (Makes m ∷ []) (attempts d s (taken + 1) ms (moved m w) (rest space)))
    (after (Makes m ∷ []) (attempts d s (taken + 1) ms (moved m w) []))
    (LicensedMoves entry past ms (moved m w) (rest space)) have.0 licensed
    (λ more. ap (after (Makes m ∷ [])) (moves_roomy entry past d s (taken + 1) ms (moved m w) (rest space) have.1 more))

-- ---- steps

steps_roomy : (n : ℕ) (entry : Entry) (before : List Made) (s : Session) (w : World) (space : Space)
    → StepsHaveRoom n entry before w → LicensedSteps n entry before w space → spent (steps n s w space) ≡ steps n s w []
steps_roomy zero entry before s w space have licensed = refl
steps_roomy (suc n) entry before s w space have licensed =
    by (next_step w) (λ made v left h l. steps_roomy n entry made s v left h l) have licensed
  where
    by : (next : Option Move)
        → ((made : List Made) (v : World) (left : Space) → StepsHaveRoom n entry made v → LicensedSteps n entry made v left → spent (steps n s v left) ≡ steps n s v [])
        → StepHasRoom (StepsHaveRoom n entry) entry before w next → LicensedStep (LicensedSteps n entry) entry before w space next
        → spent (step_by (steps n s) w s space next) ≡ step_by (steps n s) w s [] next
    by None more h l = refl
    by (Some m) more h l =
        let past : List Made = before ++ record { move = m; world = w } ∷ []
        in step_roomy (first space) entry before m w s (rest space)
        (after (Makes m ∷ []) (steps n s (moved m w) (rest space))) (after (Makes m ∷ []) (steps n s (moved m w) []))
        (LicensedSteps n entry past (moved m w) (rest space)) h.0 l
        (λ licensed. ap (after (Makes m ∷ [])) (more past (moved m w) (rest space) h.1 licensed))

-- ---- a line

-- something that was done with all its room, and then steps
behind_roomy : (n : ℕ) (entry : Entry) (before : List Made) (w : World) (done full : Served) → spent done ≡ full
    → BehindHasRoom n entry before w full → LicensedAfter n entry before w done → spent (and_steps n done) ≡ and_steps n full
behind_roomy n entry before w done full same have licensed =
    ap (after done.items)
    (steps_roomy n entry (before ++ made_by w done.items) done.session done.world done.left
    (subst (BehindHasRoom n entry before w) (sym same) have) licensed)
    ∙ ap (and_steps n) same

line_roomy : (n : ℕ) (entry : Entry) (before : List Made) (w : World) (s : Session) (space : Space) (line : Line)
    → LineHasRoom n entry before w s line → LicensedLine n entry before w s space line → spent (line_served n w s space line) ≡ line_served n w s [] line
line_roomy n entry before w s space Comment have licensed = refl
line_roomy n entry before w s space (Asks command) have licensed =
    behind_roomy n entry before w (attempts (deed w s command) s 0 (deed w s command).moves w space)
    (attempts (deed w s command) s 0 (deed w s command).moves w [])
    (moves_roomy entry before (deed w s command) s 0 (deed w s command).moves w space have.0 licensed.0) have.1 licensed.1
line_roomy n entry before w s space (Refused refusal) have licensed =
    ap (after (replied (says.Refused refusal) w s []).items) (steps_roomy n entry before s w space have licensed)

-- ---- a script

pub lines_roomy : (entry : Entry) (before : List Made) (forms : List Form) (n : ℕ) (w : World) (s : Session) (lines : List (List ℕ)) (space : Space)
    → LinesHaveRoom entry before forms n w s lines → Licensed entry before forms n w s lines space
    → spent (course forms n w s lines space) ≡ course forms n w s lines []
lines_roomy entry before forms n w s [] space have licensed = refl
lines_roomy entry before forms n w s (line ∷ lines) space have licensed =
    ap (after done.items)
    (lines_roomy entry (before ++ made_by w done.items) forms n done.world done.session lines done.left
    (subst Behind (sym same) have.1) licensed.1)
    ∙ ap (λ (it : Served). after it.items (course forms n it.world it.session lines it.left)) same
  where
    done : Served
    done = served forms n w s line space

    same : spent done ≡ served forms n w s line []
    same = line_roomy n entry before w s space (line_of forms line) have.0 licensed.0

    Behind : Served → Type 0
    Behind it = LinesHaveRoom entry (before ++ made_by w it.items) forms n it.world it.session lines
