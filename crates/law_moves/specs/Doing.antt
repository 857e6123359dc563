-- A command of several moves, while they are made: each takes place, or ends the command.
--     IsMoved m w ..      a call of the store made this move
--     IsDoing d w v left ..      some of a deed's moves took place, up to the World v, and these are left
use Rattle.std.specs.Prelude.{◌≡◌, List, ◌++◌, map}
use Rattle.ov_host.specs.Host.{State}
use Rattle.ov_host.specs.Stops.{Only}
use Rattle.ov_core.specs.AtWorld.{IsAtWorld}
use Rattle.ov_core.specs.Held.{Held}
use Rattle.ov_model.specs.Act.{Deed}
use Rattle.ov_model.specs.Course.{Makes, world_after}
use Rattle.ov_model.specs.Moves.{Move}
use Rattle.ov_model.specs.World.{World}
use Rattle.law_room.specs.Room.{Entry, Made, IsWithin}
use Rattle.law_runs.specs.Licence.{made_by}
use Rattle.law_runs.specs.Stops.{IsFound, printed_of}
pub use Rattle.law_runs.specs.Moving.{IsMoved}

pub record IsDoing (d : Deed) (w v : World) (left : List Move) (before now : Held) (old new : State) : Type 0 where
  pub moves : List Move
  pub split : d.moves ≡ moves ++ left
  pub world_is : v ≡ world_after w (map Makes moves)
  pub within : (entry : Entry) (past : List Made) → IsWithin entry past before → IsWithin entry (past ++ made_by w (map Makes moves)) now
  pub stops : Only old.tape new.tape (IsFound w (printed_of old) (map Makes moves))
  pub at : IsAtWorld v now new
  pub printed : printed_of new ≡ printed_of old
