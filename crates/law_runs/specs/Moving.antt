-- A call of the store that makes a move.
--     IsMoved m w ..      it made this move of the World
use Rattle.std.specs.Prelude.{List, [], ◌∷◌, ◌++◌}
use Rattle.ov_host.specs.Host.{State}
use Rattle.ov_host.specs.Stops.{Only}
use Rattle.ov_core.specs.AtWorld.{IsAtNext, IsEither}
use Rattle.ov_core.specs.Held.{Held}
use Rattle.ov_model.specs.Moves.{Move, moved}
use Rattle.ov_model.specs.World.{World}
use Rattle.law_room.specs.Room.{Entry, Made, IsWithin}
use Rattle.law_runs.specs.Stops.{printed_of}

-- a stop at any moment leaves the World before it or after it, nothing was printed, and it took no more room than it writes
pub record IsMoved (m : Move) (w : World) (before now : Held) (old new : State) : Type 0 where
  pub stops : Only old.tape new.tape (IsEither w (moved m w) (printed_of old))
  pub next : IsAtNext (moved m w) now old new
  pub within : (entry : Entry) (past : List Made) → IsWithin entry past before → IsWithin entry (past ++ record { move = m; world = w } ∷ []) now
