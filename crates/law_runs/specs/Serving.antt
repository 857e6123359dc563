-- What serving a command, a line, and lines one after another keep to, where the store is at a World and the stage tells its
-- files.
--     Does d s t w reply ..      a command did what it means
--     Breaks d s w ..      or it was stopped in it
--     Serves forms steps w s t line ok ..      a line was served, of commands of these forms
--     SoFar forms steps w s t gone ..      these lines were served
--     Runs, Halts, Ends      a run ended somewhere; it ended between two lines; it ended at its last line
use Rattle.std.specs.Prelude.{◌≡◌, ◌||◌, ℕ, Bool, true, false, List, [], ◌∷◌, ◌++◌, map}
use Rattle.std.specs.FinMap.{get}
use Rattle.ov_host.specs.Host.{State}
use Rattle.ov_host.specs.Stage.{Files as Map}
use Rattle.ov_host.specs.Stops.{Only}
use Rattle.ov_core.specs.AtWorld.{IsAtWorld}
use Rattle.ov_core.specs.Held.{Held}
use Rattle.ov_model.specs.Act.{Deed, Files, Session}
use Rattle.ov_model.specs.Course.{Item, Makes, Says, Served, Space, after, attempts, course, play, served, world_after}
use Rattle.ov_model.specs.Forms.{Form}
use Rattle.ov_model.specs.Line.{line_of}
use Rattle.ov_model.specs.Moves.{Move}
use Rattle.ov_model.specs.World.{World}
use Rattle.ov_model.specs.declared.reply.Reply.{Reply}
use Rattle.ov_model.specs.declared.reply.Reply.TheVariants as says
use Rattle.law_room.specs.Room.{Entry, Made, IsWithin}
use Rattle.law_runs.specs.Licence.{Licensed, LicensedLine, LicensedMoves, made_by}
use Rattle.law_runs.specs.Stops.{IsFound, printed_of}

-- the files of a stage, and the user, as the definitions have them
abbrev pub files_of : Map → Files
files_of files = λ name. get files name

abbrev pub session_of : Map → List ℕ → Session
session_of files user = record { files = files_of files; user = user }

abbrev pub is_error : Reply → Bool
is_error (says.Refused refusal) = true
is_error _ = false

abbrev pub has_error : List Item → Bool
has_error [] = false
has_error (Makes m ∷ items) = has_error items
has_error (Says reply ∷ items) = is_error reply || has_error items

-- ---- a command

-- It was done or refused, and has a reply, which isn't printed yet. `used` are the answers for room that it met, and `t` is the
-- session then.
pub record Does (d : Deed) (s t : Session) (w : World) (reply : Reply) (before now : Held) (old new : State) : Type 0 where
  pub moves : List Move
  pub world : World
  pub used : Space
  pub did : (future : Space) → attempts d s 0 d.moves w (used ++ future)
      ≡ record { items = map Makes moves ++ Says reply ∷ []; world = world; session = t; left = future }
  pub licensed : (entry : Entry) (past : List Made) → IsWithin entry past before → (future : Space)
      → LicensedMoves entry past d.moves w (used ++ future)
  pub within : (entry : Entry) (past : List Made) → IsWithin entry past before
      → IsWithin entry (past ++ made_by w (map Makes moves)) now
  pub stops : Only old.tape new.tape (IsFound w (printed_of old) (map Makes moves))
  pub at : IsAtWorld world now new
  pub printed : printed_of new ≡ printed_of old

-- It was stopped: by a fault of an end, want of memory, or damage. What is left is found at some place of what it was to do.
abbrev pub Breaks : Deed → Session → World → State → State → Type 0
Breaks d s w old new = Only old.tape new.tape (IsFound w (printed_of old) (attempts d s 0 d.moves w []).items)

-- ---- a line

-- Where an end failed, or there was no memory, the run ends here: all that was still to come counts as met by no refusal.
-- `refused` says whether the reply is an error.
pub record Serves (forms : List Form) (steps : ℕ) (w : World) (s t : Session) (line : List ℕ) (ok refused : Bool) (before now : Held) (old new : State) : Type 0 where
  pub used : Space
  pub did : Served
  pub acts : (future : Space) → (ok ≡ false → future ≡ []) → served forms steps w s line (used ++ future) ≡ record did { left = future }
  pub licensed : (entry : Entry) (past : List Made) → IsWithin entry past before → (future : Space) → (ok ≡ false → future ≡ [])
      → LicensedLine steps entry past w s (used ++ future) (line_of forms line)
  pub within : ok ≡ true → (entry : Entry) (past : List Made) → IsWithin entry past before → IsWithin entry (past ++ made_by w did.items) now
  pub stops : Only old.tape new.tape (IsFound w (printed_of old) did.items)
  pub at : ok ≡ true → IsAtWorld did.world now new
  pub printed : ok ≡ true → printed_of new ≡ printed_of old ++ play did.items
  pub session_is : ok ≡ true → did.session ≡ t
  pub refused_is : ok ≡ true → refused ≡ has_error did.items

-- ---- lines

-- These lines were served, whatever lines come after them. `before` was kept at the entry, and `now` is.
pub record SoFar (forms : List Form) (steps : ℕ) (w : World) (s t : Session) (gone : List (List ℕ)) (failed : Bool) (before now : Held) (old new : State) : Type 0 where
  pub past : Space
  pub items : List Item
  pub world : World
  pub split : (later : List (List ℕ)) (future : Space) → course forms steps w s (gone ++ later) (past ++ future)
      ≡ after items (course forms steps world t later future)
  pub licensed : (entry : Entry) → IsWithin entry [] before → (later : List (List ℕ)) (future : Space)
      → Licensed entry (made_by w items) forms steps world t later future
      → Licensed entry [] forms steps w s (gone ++ later) (past ++ future)
  pub within : (entry : Entry) → IsWithin entry [] before → IsWithin entry (made_by w items) now
  pub stops : Only old.tape new.tape (IsFound w (printed_of old) items)
  pub at : IsAtWorld world now new
  pub world_is : world ≡ world_after w items
  pub printed : printed_of new ≡ printed_of old ++ play items
  pub failed_is : failed ≡ has_error items

-- The run ended, in a line or between two: what a stop at any moment of it leaves is found in the course under some answers for
-- room, each refusal among them licensed.
pub record Runs (forms : List Form) (steps : ℕ) (w : World) (s : Session) (lines : List (List ℕ)) (before : Held) (old new : State) : Type 0 where
  pub space : Space
  pub licensed : (entry : Entry) → IsWithin entry [] before → Licensed entry [] forms steps w s lines space
  pub stops : Only old.tape new.tape (IsFound w (printed_of old) (course forms steps w s lines space).items)

-- It ended between two lines: the replies to the lines before are printed, and the store and the files are as those lines leave
-- them. What a stop at any moment of it leaves is found in the course of all its lines.
pub record Halts (forms : List Form) (steps : ℕ) (w : World) (s t : Session) (gone lines : List (List ℕ)) (failed : Bool) (before now : Held) (old new : State) : Type 0 where
  pub space : Space
  pub licensed : (entry : Entry) → IsWithin entry [] before → Licensed entry [] forms steps w s lines space
  pub stops : Only old.tape new.tape (IsFound w (printed_of old) (course forms steps w s lines space).items)
  pub printed : printed_of new ≡ printed_of old ++ play (course forms steps w s gone space).items
  pub at : IsAtWorld (course forms steps w s gone space).world now new
  pub session_is : (course forms steps w s gone space).session ≡ t
  pub failed_is : failed ≡ has_error (course forms steps w s gone space).items

-- it ended at its last line
abbrev pub Ends : List Form → ℕ → World → Session → Session → List (List ℕ) → Bool → Held → Held → State → State → Type 0
Ends forms steps w s t lines failed before now old new = Halts forms steps w s t lines lines failed before now old new
