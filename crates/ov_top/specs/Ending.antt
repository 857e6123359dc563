-- How a run ended: the cause of each status, what was printed, and what a stop at any moment of it leaves.
--     Cause status words old new      why the run ended so
--     IsUndamaged status      no bytes are the cause
--     Keeps old new      what every run keeps to, however it ends
--     IsTold w old      the ends tell their bytes, nothing is pending, and the store's bytes stand for the World
--     Plays status steps w old new      what was said and done, and what a stop left
use Rattle.std.specs.Prelude.{◌≡◌, ◌≢◌, ◌≤◌, ◌<◌, ◌⊎◌, ◌+◌, ◌^◌, ◌++◌, ℕ, Bool, true, false, List, [], length, None, Some}
use Rattle.ov_host.specs.declared.area.Area.TheVariants.{Pages}
use Rattle.ov_host.specs.Disk.{AllSettled, Image, as_read}
use Rattle.ov_host.specs.Host.{State, Rose}
use Rattle.ov_host.specs.Source.{Script}
use Rattle.ov_host.specs.Stage.{Staged}
use Rattle.ov_host.specs.Tape.{clock, left_since}
use Rattle.ov_event.specs.declared.event.Event.{Event}
use Rattle.ov_journal.specs.Journal.{IsUnmade, Kept, end_of}
use Rattle.ov_catalog.specs.Extents.{covers, live}
use Rattle.ov_catalog.specs.Raw.{numbers_in}
use Rattle.law_image.specs.Images.{StandsAs, StandsBy}
use Rattle.law_runs.specs.Licence.{Licensed}
use Rattle.law_runs.specs.Serving.{has_error, session_of}
use Rattle.law_runs.specs.Stops.{IsDue, printed_of}
use Rattle.ov_model.specs.Act.{Session}
use Rattle.ov_model.specs.Course.{Served, Space, course, play}
use Rattle.ov_model.specs.Forms.{all_forms}
use Rattle.ov_model.specs.Words.{lines_of}
use Rattle.ov_model.specs.World.{World}
use Rattle.ov_open.specs.declared.errors.OpenErr.{OpenErr}
use Rattle.ov_open.specs.declared.errors.OpenErr.TheVariants as opening
use Rattle.ov_open.specs.Refusing.{Refuses}
use Rattle.law_room.specs.Room.{Entry}
use Rattle.ov_session.specs.Commands.{Attended, Goes}
use Rattle.ov_args.specs.Words.{options_of}
use Rattle.ov_script.specs.Reader.{ended_lines, taken_of}
use Rattle.ov_top.specs.Bytes.{Opens}
use Rattle.ov_top.specs.Running.{ActsAfter, IsReadWhole, ReadsDamage, Spent, StepsOnDamage, user_of_run}
use Rattle.ov_top.specs.declared.status.Status.{Status}
use Rattle.ov_top.specs.declared.status.Status.TheVariants.{Done, Refused, Usage, HostFault, InputFault, Memory, NotAStore, Damaged, Format, ScriptTooLong}

-- all that contracts see of the three ends at one moment
pub record Ends : Type 0 where
  pub host : State
  pub script : Script
  pub stage : Staged

abbrev pub AreWords : List (List ℕ) → Type 0
AreWords words = options_of words ≢ None

-- ---- the cause of each status

-- opening refuses the bytes so, where the host tells them; nothing of the script was taken, and the stage wasn't called
pub record IsUnopened (why : OpenErr) (old new : Ends) : Type 0 where
  pub refuses : old.host.tells ≡ true → Refuses why old.host.tape.disk new.host.tape.disk
  pub script_same : new.script ≡ old.script
  pub stage_same : new.stage ≡ old.stage

-- opening refused nothing: the bytes at the entry open, where the host tells them
abbrev pub HasOpened : Ends → Type 0
HasOpened old = old.host.tells ≡ true → Opens old.host.tape.disk

-- a step met damage, of those that the words ask for
abbrev pub StepsBy : List (List ℕ) → Ends → Ends → ℕ → Type 0
StepsBy words old new page = (o : List ℕ × ℕ) × (options_of words ≡ Some o) × StepsOnDamage o.1 old.script new.host page

-- The areas' bytes are a cause only where the host tells them, the script's where the source does. Bytes that open are refused for
-- nothing, so `NotAStore`, `Format` and opening's `Damaged` come exactly by the bytes, but for a fault and want of memory. A
-- script that was read to its end has fewer than 2^32 bytes, so a longer one never ends as `Done` or `Refused`, nor a shorter one
-- as `ScriptTooLong`.
abbrev pub Cause : Status → List (List ℕ) → Ends → Ends → Type 0
Cause Done words old new = AreWords words × HasOpened old × (old.script.tells ≡ true → IsReadWhole old.script new.script)
Cause Refused words old new = AreWords words × HasOpened old × (old.script.tells ≡ true → IsReadWhole old.script new.script)
Cause Usage words old new = (options_of words ≡ None) × (new ≡ old)
Cause HostFault words old new = AreWords words × Rose old.host.faults new.host.faults
Cause InputFault words old new = AreWords words × HasOpened old × (Rose old.script.faults new.script.faults ⊎ Rose old.stage.faults new.stage.faults)
Cause Memory words old new = options_of words ≡ None → new ≡ old
Cause NotAStore words old new = AreWords words × IsUnopened opening.NotAStore old new
Cause (Damaged area at) words old new = AreWords words × (IsUnopened (opening.Damaged area at) old new ⊎ (HasOpened old × (area ≡ Pages) × (ReadsDamage old.script new.stage new.host at ⊎ StepsBy words old new at)))
Cause (Format found) words old new = AreWords words × IsUnopened (opening.Format found) old new
Cause ScriptTooLong words old new = AreWords words × HasOpened old × (old.script.tells ≡ true → length old.script.left ≡ length new.script.left + 2 ^ 32)

-- no bytes are the cause
abbrev pub IsUndamaged : Status → Type 0
IsUndamaged NotAStore = ⊥
IsUndamaged (Damaged area at) = ⊥
IsUndamaged (Format found) = ⊥
IsUndamaged _ = Unit {0}

-- What every run keeps to: whether an end tells, and whether the host keeps to the model, stays as it was; no count of faults, of
-- misses or of fetched bytes falls; and at most 2^32 bytes of the script are taken.
pub record Keeps (old new : Ends) : Type 0 where
  pub host : Goes old.host new.host
  pub script : Spent old.script new.script
  pub stage : Attended old.stage new.stage

-- ---- what was said and done

pub record IsTold (w : World) (old : Ends) : Type 0 where
  pub host : old.host.tells ≡ true
  pub settled : AllSettled old.host.tape.disk
  pub stands : StandsAs w (as_read old.host.tape.disk)
  pub script : old.script.tells ≡ true
  pub stage : old.stage.tells ≡ true

-- No page of a live extent is at or past `pages`, the journal's first closed gate isn't past `end`, and its epoch is `epoch`. Where
-- no journal was made yet, the gate will be at 38, and the epoch 1.
pub record IsEntry (entry : Entry) (c : Image) : Type 0 where
  pub pages : (kept : Kept) (events : List Event) (w : World) → StandsBy kept events w c
      → (page : ℕ) → 1 ≤ covers (live (numbers_in events)) page → page < entry.pages
  pub end_ : (kept : Kept) (events : List Event) (w : World) → StandsBy kept events w c → end_of kept ≤ entry.end
  pub unmade : IsUnmade c.journal → 38 ≤ entry.end
  pub epoch : (kept : Kept) (events : List Event) (w : World) → StandsBy kept events w c → kept.epoch ≡ entry.epoch
  pub first_epoch : IsUnmade c.journal → entry.epoch ≡ 1

-- a run begins as this user
abbrev pub session_at : Ends → Session
session_at ends = session_of ends.stage.files user_of_run

-- the course of the script under some answers for room
abbrev pub course_of : ℕ → World → Ends → Space → Served
course_of steps w old space = course all_forms steps w (session_at old) (lines_of old.script.left) space

-- There are answers for room, each refusal among them licensed, so that all that a stop at some moment since the entry may have
-- left is found in the course: of the replies a prefix was printed, and the moves that are due before them took place, and
-- perhaps those due before the next one.
pub record Stops (steps : ℕ) (w : World) (old new : Ends) : Type 0 where
  pub space : Space
  pub licensed : (entry : Entry) → IsEntry entry (as_read old.host.tape.disk)
      → Licensed entry [] all_forms steps w (session_at old) (lines_of old.script.left) space
  pub stops : (c : Image) → left_since new.host.tape (clock old.host.tape) c → IsDue w (printed_of old.host) (course_of steps w old space).items c

-- the lines whose line feed was taken from the source, and their course
abbrev pub lines_taken : Ends → Ends → List (List ℕ)
lines_taken old new = ended_lines (taken_of old.script new.script)

abbrev pub course_taken : ℕ → World → Ends → Ends → Space → Served
course_taken steps w old new space = course all_forms steps w (session_at old) (lines_taken old new) space

-- And where only the reading of the script ended, just the lines whose line feed was taken were served: their replies are printed
-- whole, nothing is pending, the bytes stand for the World after them and their steps, and the
-- stage's files and the user, who may act behind these lines, are as they leave them.
pub record PlayedTaken (steps : ℕ) (w : World) (old new : Ends) : Type 0 where
  pub space : Space
  pub licensed : (entry : Entry) → IsEntry entry (as_read old.host.tape.disk)
      → Licensed entry [] all_forms steps w (session_at old) (lines_of old.script.left) space
  pub stops : (c : Image) → left_since new.host.tape (clock old.host.tape) c → IsDue w (printed_of old.host) (course_of steps w old space).items c
  pub printed : printed_of new.host ≡ printed_of old.host ++ play (course_taken steps w old new space).items
  pub settled : AllSettled new.host.tape.disk
  pub stands : StandsAs (course_taken steps w old new space).world (as_read new.host.tape.disk)
  pub user : List ℕ
  pub acts : ActsAfter (lines_taken old new) user_of_run user
  pub files : session_of new.stage.files user ≡ (course_taken steps w old new space).session

-- and where the script was read to its end, the replies of the course are printed, nothing is pending, and the bytes stand for
-- its last World; the flag says whether a reply is an error
pub record Played (steps : ℕ) (w : World) (failed : Bool) (old new : Ends) : Type 0 where
  pub space : Space
  pub licensed : (entry : Entry) → IsEntry entry (as_read old.host.tape.disk)
      → Licensed entry [] all_forms steps w (session_at old) (lines_of old.script.left) space
  pub stops : (c : Image) → left_since new.host.tape (clock old.host.tape) c → IsDue w (printed_of old.host) (course_of steps w old space).items c
  pub printed : printed_of new.host ≡ printed_of old.host ++ play (course_of steps w old space).items
  pub settled : AllSettled new.host.tape.disk
  pub stands : StandsAs (course_of steps w old space).world (as_read new.host.tape.disk)
  pub user : List ℕ
  pub acts : ActsAfter (lines_of old.script.left) user_of_run user
  pub files : session_of new.stage.files user ≡ (course_of steps w old space).session
  pub failed_is : failed ≡ has_error (course_of steps w old space).items

abbrev pub Plays : Status → ℕ → World → Ends → Ends → Type 0
Plays Done steps w old new = Played steps w false old new
Plays Refused steps w old new = Played steps w true old new
Plays HostFault steps w old new = Stops steps w old new
Plays InputFault steps w old new = Stops steps w old new × ((Rose old.stage.faults new.stage.faults → ⊥) → PlayedTaken steps w old new)
Plays Memory steps w old new = Stops steps w old new
Plays ScriptTooLong steps w old new = PlayedTaken steps w old new
Plays Usage steps w old new = ⊥
Plays NotAStore steps w old new = ⊥
Plays (Damaged area at) steps w old new = ⊥
Plays (Format found) steps w old new = ⊥
