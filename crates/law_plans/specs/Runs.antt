-- Runs, and the Worlds in which they may begin.
--     HasPlans w      what the laws of partitions and plans say of every World of a run, together
--     IsRun w items      the moves and replies of a run that begins in such a World
--     Between items from to P      each move between two Worlds of a run is such a move
use Rattle.std.specs.Prelude.{◌≡◌, ◌≤◌, ◌<◌, ℕ, List, slice_get, Some}
use Rattle.ov_model.specs.Act.{Session}
use Rattle.ov_model.specs.Course.{Item, Space, course, moves_of}
use Rattle.ov_model.specs.Forms.{Form}
use Rattle.ov_model.specs.Moves.{Move}
use Rattle.ov_model.specs.World.{World}
use Rattle.law_partitions.specs.OldOrNew.{AreOldOrNew}
use Rattle.law_partitions.specs.PlanEnds.{ArePlanned}
use Rattle.law_partitions.specs.Sound.{AllNameVersions, IsSound}

-- it is sound, its partitions are old or new, and its plans are at the splits that they are of
pub record HasPlans (w : World) : Type 0 where
  pub sound : IsSound w
  pub old_or_new : AreOldOrNew w.sets
  pub planned : ArePlanned w.sets

-- They are those of the course of some lines, whatever the forms of commands, the steps behind each reply, the session and
-- the space are. By the forms a commit lists a version.
pub record IsRun (w : World) (items : List Item) : Type 0 where
  pub forms : List Form
  pub steps : ℕ
  pub session : Session
  pub lines : List (List ℕ)
  pub space : Space
  pub names : AllNameVersions forms lines
  pub plans : HasPlans w
  pub are : items ≡ (course forms steps w session lines space).items

-- each move that leads on from the World at one place, up to the World at another, is such a move
abbrev pub Between : List Item → ℕ → ℕ → (Move → Type 0) → Type 0
Between items from to P = (j : ℕ) (m : Move) → from ≤ j → j < to → slice_get (moves_of items) j ≡ Some m → P m
