-- Moves that were made one after another, from a World w up to a World v, and one more.
use Rattle.std.proofs.Common.{◌≡◌, ℕ, List, [], ◌∷◌, ◌++◌, map, refl, sym, ◌∙◌, ap, subst, append-nil, append_assoc}
use Rattle.std.proofs.lemmas.List.{map-append}
use Rattle.ov_host.specs.Disk.{Image}
use Rattle.ov_host.specs.Host.{State}
use Rattle.ov_host.specs.Stops.{Only}
use Rattle.ov_host.proofs.Stops.{only_then, only_wider}
use Rattle.ov_model.specs.Course.{Enough, Item, Makes, Space, play, world_after}
use Rattle.ov_model.specs.Moves.{Move, moved}
use Rattle.ov_model.specs.Steps.{all_moved}
use Rattle.ov_model.specs.World.{World}
use Rattle.ov_model.proofs.Courses.{world_append}
use Rattle.ov_core.specs.AtWorld.{IsEither}
use Rattle.ov_core.specs.Held.{Held}
use Rattle.law_room.specs.Room.{Entry, IsWithin, Made}
use Rattle.law_runs.specs.Licence.{made_by}
use Rattle.law_runs.specs.Stops.{IsFound, printed_of}
use Rattle.law_runs.proofs.Doing.{either_found}
use Rattle.law_runs.proofs.Found.{found_behind, found_front}

abbrev pub made : List Move → List Item
made moves = map Makes moves

-- there was room for each
abbrev pub enough : List Move → Space
enough [] = []
enough (m ∷ ms) = Enough ∷ enough ms

pub play_none : (moves : List Move) → play (made moves) ≡ []
play_none [] = refl
play_none (m ∷ moves) = play_none moves

pub after_all : (moves : List Move) (w : World) → all_moved moves w ≡ world_after w (made moves)
after_all [] w = refl
after_all (m ∷ moves) w = after_all moves (moved m w)

pub made_more : (w : World) (moves : List Move) (m : Move) → made_by w (made (moves ++ m ∷ [])) ≡ made_by w (made moves) ++ record { move = m; world = world_after w (made moves) } ∷ []
made_more w [] m = refl
made_more w (x ∷ moves) m = ap (λ (ms : List Made). record { move = x; world = w } ∷ ms) (made_more (moved x w) moves m)

module _ (w v : World) (moves : List Move) (world_is : v ≡ world_after w (made moves)) where
  pub world_more : (m : Move) → moved m v ≡ world_after w (made (moves ++ m ∷ []))
  world_more m = ap (moved m) world_is ∙ sym (ap (world_after w) (map-append Makes moves (m ∷ [])) ∙ world_append w (made moves) (Makes m ∷ []))

  pub within_more : (m : Move) (entry : Entry) (past : List Made) (held : Held) → IsWithin entry ((past ++ made_by w (made moves)) ++ record { move = m; world = v } ∷ []) held
      → IsWithin entry (past ++ made_by w (made (moves ++ m ∷ []))) held
  within_more m entry past held within =
      subst (λ (ms : List Made). IsWithin entry ms held)
      (append_assoc past (made_by w (made moves)) (record { move = m; world = v } ∷ [])
      ∙ ap (λ (u : World). past ++ (made_by w (made moves) ++ record { move = m; world = u } ∷ [])) world_is
      ∙ ap (λ (ms : List Made). past ++ ms) (sym (made_more w moves m)))
      within

  -- a stop in these, and then in the move that comes next, whatever comes behind
  module _ (old mid : State) (printed : printed_of mid ≡ printed_of old) (stops : Only old.tape mid.tape (IsFound w (printed_of old) (made moves))) where
    printed_mid : printed_of mid ≡ printed_of old ++ play (made moves)
    printed_mid = printed ∙ sym (append-nil (printed_of old)) ∙ ap (λ (text : List ℕ). printed_of old ++ text) (sym (play_none moves))

    pub stops_here : (behind : List Item) → Only old.tape mid.tape (IsFound w (printed_of old) (made moves ++ behind))
    stops_here behind =
        only_wider old.tape mid.tape (IsFound w (printed_of old) (made moves)) (IsFound w (printed_of old) (made moves ++ behind))
        (λ c found. found_front w (printed_of old) (made moves) behind c found) stops

    pub stops_next : (m : Move) (new : State) (behind : List Item) → Only mid.tape new.tape (IsEither v (moved m v) (printed_of mid))
        → Only old.tape new.tape (IsFound w (printed_of old) (made moves ++ Makes m ∷ behind))
    stops_next m new behind either =
        let Found : Image → Type 0 = IsFound w (printed_of old) (made moves ++ Makes m ∷ behind)
        in only_then old.tape mid.tape new.tape Found (stops_here (Makes m ∷ behind))
        (only_wider mid.tape new.tape (IsEither v (moved m v) (printed_of mid)) Found
        (λ c on. found_behind w v (printed_of old) (printed_of mid) (made moves) (Makes m ∷ behind) c world_is printed_mid
        (either_found v m (printed_of mid) behind c on)) either)
