-- A run's moves and replies as the programs keep them, what comes of commands, and which of them and which Worlds are plain
-- enough for them.
--     commanded n w s commands      what comes of these commands, with so many steps behind each reply
--     IsPlainCourse n w s commands      each is computed here, over the World that it meets
use Rattle.std.specs.Prelude.{◌≡◌, ℕ, true, List, [], ◌∷◌, map}
use Rattle.ov_model.specs.Act.{Session as KnownSession}
use Rattle.ov_model.specs.Course.{Item as KnownItem, Makes, Says, Served, nothing, after, replied, line_served}
use Rattle.ov_model.specs.Line.{Asks}
use Rattle.ov_model.specs.Moves.{Move as KnownMove, moved}
use Rattle.ov_model.specs.World.{World}
use Rattle.ov_model.specs.declared.command.Command.{Command}
use Rattle.ov_model.specs.declared.reply.Reply.{Reply}
use Rattle.ov_plain_act.specs.Acts.{is_plain, move_of, session_of}
use Rattle.ov_plain_act.specs.Small.{AreSmall, CanMove, IsSmallCommand}
use Rattle.ov_plain_act.specs.declared.running.Item.{Item}
use Rattle.ov_plain_act.specs.declared.running.Item.TheVariants as kept
use Rattle.ov_plain_act.specs.declared.running.Run.{Run}

abbrev pub item_of : Item → KnownItem
item_of (kept.Makes the_move) = Makes (move_of the_move)
item_of (kept.Says reply) = Says reply

-- with room for each move, whatever comes later
abbrev pub run_of : Run → Served
run_of r = record { items = map item_of r.items; world = r.world; session = session_of r.session; left = [] }

-- moves one after another, with room for each, and then a reply
abbrev pub made : List KnownMove → World → Reply → KnownSession → Served
made [] w reply s = replied reply w s []
made (m ∷ ms) w reply s = after (Makes m ∷ []) (made ms (moved m w) reply s)

-- a World that is small and can take a move
pub record IsReady (w : World) : Type 0 where
  pub small : AreSmall w.sets
  pub can : CanMove w

-- what comes of commands, one after another, with so many steps behind each reply
abbrev pub commanded : ℕ → World → KnownSession → List Command → Served
commanded n w s [] = nothing w s []
commanded n w s (command ∷ commands) =
    after (line_served n w s [] (Asks command)).items
    (commanded n (line_served n w s [] (Asks command)).world (line_served n w s [] (Asks command)).session commands)

-- each of these commands is computed here and small, and each World that it meets is ready
abbrev pub IsPlainCourse : ℕ → World → KnownSession → List Command → Type 0
IsPlainCourse n w s [] = Unit {0}
IsPlainCourse n w s (command ∷ commands) =
    IsReady w × ((is_plain command ≡ true) × (IsSmallCommand command
    × IsPlainCourse n (line_served n w s [] (Asks command)).world (line_served n w s [] (Asks command)).session commands))
