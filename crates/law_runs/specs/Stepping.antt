-- Migration steps, one after another, each made by a call of the store: those behind a reply, and those of a `migrate`.
--     IsStepping n left w v ..      of up to n steps some were made, up to the World v, and `left` may still come
--     IsStepped n w ok ..      they ended: all were made, no plan runs, or there may be no room for the next; or, where not ok,
--                              they were broken off
use Rattle.std.specs.Prelude.{◌≡◌, ◌+◌, ℕ, Bool, true, false, List, [], ◌++◌, length, map}
use Rattle.ov_host.specs.Host.{State}
use Rattle.ov_host.specs.Stops.{Only}
use Rattle.ov_core.specs.AtWorld.{IsAtWorld}
use Rattle.ov_core.specs.Held.{Held}
use Rattle.ov_model.specs.Act.{Session}
use Rattle.ov_model.specs.Course.{Makes, Space, steps, world_after}
use Rattle.ov_model.specs.Moves.{Move}
use Rattle.ov_model.specs.Steps.{next_steps}
use Rattle.ov_model.specs.World.{World}
use Rattle.law_room.specs.Room.{Entry, Made, IsWithin}
use Rattle.law_runs.specs.Licence.{LicensedSteps, made_by}
use Rattle.law_runs.specs.Stops.{IsFound, printed_of}

-- those that were made are the first of the n steps from the World w, and nothing was printed
pub record IsStepping (n left : ℕ) (w v : World) (before now : Held) (old new : State) : Type 0 where
  pub moves : List Move
  pub count : length moves + left ≡ n
  pub split : next_steps n w ≡ moves ++ next_steps left v
  pub world_is : v ≡ world_after w (map Makes moves)
  pub within : (entry : Entry) (past : List Made) → IsWithin entry past before → IsWithin entry (past ++ made_by w (map Makes moves)) now
  pub stops : Only old.tape new.tape (IsFound w (printed_of old) (map Makes moves))
  pub at : IsAtWorld v now new
  pub printed : printed_of new ≡ printed_of old

-- Moves were made and nothing was said, whatever the session, which stays. `used` are the answers for room that they met. A step
-- for which there was no room is none of the moves. Where they were broken off, the run ends here: the steps still to come count
-- as met by no refusal.
pub record IsStepped (n : ℕ) (w : World) (ok : Bool) (before now : Held) (old new : State) : Type 0 where
  pub used : Space
  pub moves : List Move
  pub world : World
  pub acts : (s : Session) (future : Space) → (ok ≡ false → future ≡ [])
      → steps n s w (used ++ future) ≡ record { items = map Makes moves; world = world; session = s; left = future }
  pub licensed : (entry : Entry) (past : List Made) → IsWithin entry past before → (future : Space) → (ok ≡ false → future ≡ [])
      → LicensedSteps n entry past w (used ++ future)
  pub within : ok ≡ true → (entry : Entry) (past : List Made) → IsWithin entry past before
      → IsWithin entry (past ++ made_by w (map Makes moves)) now
  pub stops : Only old.tape new.tape (IsFound w (printed_of old) (map Makes moves))
  pub at : ok ≡ true → IsAtWorld world now new
  pub printed : ok ≡ true → printed_of new ≡ printed_of old
