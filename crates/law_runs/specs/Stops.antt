-- What a stop in a run leaves.
--     IsFound w printed items c      the image is one at some place among what was to be done and said, from the World on
--     IsDue w printed items c      what it stands for is due between the replies that are printed whole and the next one
use Rattle.std.specs.Prelude.{◌≡◌, ◌≤◌, ◌+◌, ℕ, List, [], ◌∷◌, ◌++◌}
use Rattle.ov_host.specs.Disk.{Image}
use Rattle.ov_host.specs.Host.{State}
use Rattle.law_image.specs.Images.{StandsAs}
use Rattle.ov_model.specs.Course.{Item, Makes, Says, due, play, whole, world_after, world_at}
use Rattle.ov_model.specs.Replies.{reply_text}
use Rattle.ov_model.specs.World.{World}

abbrev pub printed_of : State → List ℕ
printed_of s = s.tape.disk.printed

-- part of the reply that comes next; none of it where a move comes next, or nothing
abbrev pub IsPartOfNext : List ℕ → List Item → Type 0
IsPartOfNext part [] = part ≡ []
IsPartOfNext part (Makes m ∷ items) = part ≡ []
IsPartOfNext part (Says reply ∷ items) = (missing : List ℕ) × (part ++ missing ≡ reply_text reply)

-- `printed` was printed before all of them
pub record IsFound (w : World) (printed : List ℕ) (items : List Item) (c : Image) : Type 0 where
  pub before : List Item
  pub after : List Item
  pub split : items ≡ before ++ after
  pub stands : StandsAs (world_after w before) c
  pub part : List ℕ
  pub next : IsPartOfNext part after
  pub printed_is : c.printed ≡ printed ++ (play before ++ part)

-- Of the replies x is printed, a prefix of them all, with so many of them whole. The image stands for the World after k moves:
-- all those that took place before the last of these replies, and none that took place after the next one.
pub record IsDue (w : World) (printed : List ℕ) (items : List Item) (c : Image) : Type 0 where
  pub x : List ℕ
  pub printed_is : c.printed ≡ printed ++ x
  pub missing : List ℕ
  pub prefix : x ++ missing ≡ play items
  pub k : ℕ
  pub low : due (whole items x) items ≤ k
  pub high : k ≤ due (whole items x + 1) items
  pub stands : StandsAs (world_at w items k) c
