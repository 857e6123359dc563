-- A whole run of a script.
--     course forms steps w session lines space      its moves and replies in order; `forms` are those of the commands that there are
--     play items      the replies as bytes
--     world_at w items k      the World after the first k moves
--     due j items      the moves before the j-th reply
--     whole items x      how many replies stand whole at the front of x
use Rattle.std.specs.Prelude.{◌≢◌, ℕ, zero, suc, ◌+◌, Bool, true, false, ◌==◌, if◌then◌else◌, List, [], ◌∷◌, ◌++◌, length, drop, Option, Some, None}
use Rattle.ov_model.specs.Act.{Session, Deed}
use Rattle.ov_model.specs.Deed.{deed}
use Rattle.ov_model.specs.Forms.{Form}
use Rattle.ov_model.specs.Line.{Line, Comment, Asks, Refused, line_of}
use Rattle.ov_model.specs.Moves.{Move, moved}
use Rattle.ov_model.specs.Replies.{reply_text}
use Rattle.ov_model.specs.Steps.{next_step, steps_left}
use Rattle.ov_model.specs.World.{World}
use Rattle.ov_model.specs.declared.refusal.Refusal.TheVariants as no
use Rattle.ov_model.specs.declared.reply.Reply.{Reply}
use Rattle.ov_model.specs.declared.reply.Reply.TheVariants as says

-- what a run does, one thing after another: a move that takes place, or a reply
pub data Item : Type 0 where
  Makes : (move : Move) → Item
  Says : (reply : Reply) → Item

-- Whether there is room for an attempt: it takes place, or it is refused for want of a free run of so many pages, or since
-- the journal is full.
pub data Room : Type 0 where
  Enough : Room
  NoRun : (pages : ℕ) → Room
  Full : Room

-- The attempts of a run are counted from 1; the first of these is of the attempt at hand. Where they end, there is room.
abbrev pub Space : Type 0
Space = List Room

abbrev pub first : Space → Room
first [] = Enough
first (room ∷ space) = room

abbrev pub rest : Space → Space
rest [] = []
rest (room ∷ space) = space

-- what came of something: what was done and said, the World and the session then, and the space that is left
pub record Served : Type 0 where
  pub items : List Item
  pub world : World
  pub session : Session
  pub left : Space

abbrev pub nothing : World → Session → Space → Served
nothing w s space = record { items = []; world = w; session = s; left = space }

-- behind these
abbrev pub after : List Item → Served → Served
after items served = record served { items = items ++ served.items }

abbrev pub replied : Reply → World → Session → Space → Served
replied reply w s space = record { items = Says reply ∷ []; world = w; session = s; left = space }

-- the steps that a refused command has taken and left, where its refusal tells them
abbrev pub steps_then : Bool → ℕ → World → Option (ℕ × ℕ)
steps_then counts taken w = if counts then Some (taken, steps_left w) else None

-- what comes where there is room, or the refusal
abbrev pub attempt : Room → Option (ℕ × ℕ) → World → Session → Space → Served → Served
attempt Enough steps w s space more = more
attempt (NoRun pages) steps w s space more = replied (says.Refused (no.NoRun pages steps)) w s space
attempt Full steps w s space more = replied (says.Refused (no.JournalFull steps)) w s space

-- A command's moves, one attempt each, `taken` of them before, and then its reply. A refusal for room ends it: the moves
-- before it stay, and the session is as it was.
abbrev pub attempts : Deed → Session → ℕ → List Move → World → Space → Served
attempts d s taken [] w space = replied d.reply w d.session space
attempts d s taken (m ∷ ms) w space =
    attempt (first space) (steps_then d.counts_steps taken w) w s (rest space)
    (after (Makes m ∷ []) (attempts d s (taken + 1) ms (moved m w) (rest space)))

-- a step, where there is room for it and a plan runs
abbrev pub try_step : Room → World → Session → Space → Served → Served
try_step Enough w s space more = more
try_step (NoRun pages) w s space more = nothing w s space
try_step Full w s space more = nothing w s space

abbrev pub step_by : (World → Space → Served) → World → Session → Space → Option Move → Served
step_by more w s space None = nothing w s space
step_by more w s space (Some m) = try_step (first space) w s (rest space) (after (Makes m ∷ []) (more (moved m w) (rest space)))

-- up to so many steps, until no plan runs or one is refused for room
abbrev pub steps : ℕ → Session → World → Space → Served
steps zero s w space = nothing w s space
steps (suc n) s w space = step_by (steps n s) w s space (next_step w)

-- and then so many steps
abbrev pub and_steps : ℕ → Served → Served
and_steps n served = after served.items (steps n served.session served.world served.left)

-- a command has a reply, and then steps follow; a comment is nothing
abbrev pub line_served : ℕ → World → Session → Space → Line → Served
line_served n w s space Comment = nothing w s space
line_served n w s space (Asks command) =
    and_steps n (attempts (deed w s command) s 0 (deed w s command).moves w space)
line_served n w s space (Refused refusal) = and_steps n (replied (says.Refused refusal) w s space)

abbrev pub served : List Form → ℕ → World → Session → List ℕ → Space → Served
served forms n w s line space = line_served n w s space (line_of forms line)

-- lines one after another
abbrev pub course : List Form → ℕ → World → Session → List (List ℕ) → Space → Served
course forms n w s [] space = nothing w s space
course forms n w s (line ∷ lines) space =
    after (served forms n w s line space).items
    (course forms n (served forms n w s line space).world (served forms n w s line space).session lines (served forms n w s line space).left)

-- the World after these
abbrev pub world_after : World → List Item → World
world_after w [] = w
world_after w (Makes m ∷ items) = world_after (moved m w) items
world_after w (Says reply ∷ items) = world_after w items

-- their replies, joined
abbrev pub play : List Item → List ℕ
play [] = []
play (Makes m ∷ items) = play items
play (Says reply ∷ items) = reply_text reply ++ play items

-- the World after the first k moves; the last World where there are no more
abbrev pub world_at : World → List Item → ℕ → World
world_at w items zero = w
world_at w [] (suc k) = w
world_at w (Makes m ∷ items) (suc k) = world_at (moved m w) items k
world_at w (Says reply ∷ items) (suc k) = world_at w items (suc k)

abbrev pub moves_of : List Item → List Move
moves_of [] = []
moves_of (Makes m ∷ items) = m ∷ moves_of items
moves_of (Says reply ∷ items) = moves_of items

-- how many moves took place before the j-th reply, counted from 1; none before reply 0, and all where there is no such reply
abbrev pub due : ℕ → List Item → ℕ
due zero items = 0
due (suc j) [] = 0
due (suc j) (Makes m ∷ items) = due (suc j) items + 1
due (suc zero) (Says reply ∷ items) = 0
due (suc (suc j)) (Says reply ∷ items) = due (suc j) items

-- whether a text begins with another
abbrev pub begins : List ℕ → List ℕ → Bool
begins text [] = true
begins [] (b ∷ bs) = false
begins (a ∷ text) (b ∷ bs) = if a == b then begins text bs else false

-- how many replies stand whole at the front of a text
abbrev pub whole : List Item → List ℕ → ℕ
whole [] text = 0
whole (Makes m ∷ items) text = whole items text
whole (Says reply ∷ items) text =
    if begins text (reply_text reply) then whole items (drop (length (reply_text reply)) text) + 1 else 0

-- no reply is empty
abbrev pub SaysSome : List Item → Type 0
SaysSome [] = Unit {0}
SaysSome (Makes m ∷ items) = SaysSome items
SaysSome (Says reply ∷ items) = (reply_text reply ≢ []) × SaysSome items
