-- The lines of a run, one after another: at the start, with one line more, and where the run ends.
use Rattle.std.proofs.Common.{◌≡◌, ℕ, Bool, true, false, List, [], ◌∷◌, ◌++◌, refl, sym, ◌∙◌, ap, subst, append-nil, append_assoc}
use Rattle.std.specs.Prelude.{◌||◌}
use Rattle.ov_host.specs.Disk.{Image}
use Rattle.ov_host.specs.Host.{State}
use Rattle.ov_host.specs.Stops.{Only}
use Rattle.ov_host.proofs.Stops.{only_then, only_wider}
use Rattle.ov_model.specs.Act.{Session}
use Rattle.ov_model.specs.Course.{Item, Makes, Says, Served, Space, after, course, play, served, world_after}
use Rattle.ov_model.specs.Forms.{Form}
use Rattle.ov_model.specs.Line.{line_of}
use Rattle.ov_model.specs.Moves.{moved}
use Rattle.ov_model.specs.World.{World}
use Rattle.ov_model.proofs.Courses.{course_ends, play_append, world_append}
use Rattle.ov_core.specs.AtWorld.{IsAtWorld}
use Rattle.ov_core.specs.Held.{Held}
use Rattle.law_room.specs.Room.{Entry, IsWithin, Made}
use Rattle.law_runs.specs.Licence.{Licensed, made_by}
use Rattle.law_runs.specs.Serving.{Ends, Halts, Runs, Serves, SoFar, has_error, is_error}
use Rattle.law_runs.specs.Stops.{IsFound, printed_of}
use Rattle.law_runs.proofs.Found.{found_behind, found_front, looked_found}
use Rattle.law_runs.proofs.Lines.{line_leaves, line_licensed}

-- ---- items behind items

after_after : (xs ys : List Item) (s : Served) → after xs (after ys s) ≡ after (xs ++ ys) s
after_after xs ys s = λ i. record s { items = sym (append_assoc xs ys s.items) i }

pub made_append : (w : World) (a b : List Item) → made_by w (a ++ b) ≡ made_by w a ++ made_by (world_after w a) b
made_append w [] b = refl
made_append w (Makes m ∷ a) b = ap (λ (more : List Made). record { move = m; world = w } ∷ more) (made_append (moved m w) a b)
made_append w (Says reply ∷ a) b = made_append w a b

or_assoc : (a b c : Bool) → (a || (b || c)) ≡ ((a || b) || c)
or_assoc true b c = refl
or_assoc false b c = refl

pub error_append : (a b : List Item) → has_error (a ++ b) ≡ (has_error a || has_error b)
error_append [] b = refl
error_append (Makes m ∷ a) b = error_append a b
error_append (Says reply ∷ a) b =
    ap (λ (rest : Bool). is_error reply || rest) (error_append a b) ∙ or_assoc (is_error reply) (has_error a) (has_error b)

module _ (forms : List Form) where
  -- where no answer for room is left, all is licensed
  licensed_whole : (entry : Entry) (before : List Made) (n : ℕ) (w : World) (s : Session) (lines : List (List ℕ)) → Licensed entry before forms n w s lines []
  licensed_whole entry before n w s [] = tt
  licensed_whole entry before n w s (line ∷ lines) =
      let one : Served = served forms n w s line []
      in (
        line_licensed n entry before w s (line_of forms line),
        subst (λ (space : Space). Licensed entry (before ++ made_by w one.items) forms n one.world one.session lines space)
            (sym (line_leaves n w s (line_of forms line)))
            (licensed_whole entry (before ++ made_by w one.items) n one.world one.session lines),
      )

  -- ---- at the start

  pub so_far_start : (n : ℕ) (w : World) (s : Session) (held : Held) (st : State) → IsAtWorld w held st → SoFar forms n w s s [] false held held st st
  so_far_start n w s held st at = record {
    past = [];
    items = [];
    world = w;
    split = λ later future. refl;
    licensed = λ entry within later future more. more;
    within = λ entry within. within;
    stops = looked_found w held st st [] at refl;
    at = at;
    world_is = refl;
    printed = sym (append-nil (printed_of st));
    failed_is = refl;
  }

  -- ---- a line more

  module _ (n : ℕ) (w : World) (s t : Session) (gone : List (List ℕ)) (line : List ℕ) (failed : Bool) (before now : Held) (old mid : State)
      (so : SoFar forms n w s t gone failed before now old mid) where
    module _ (u : Session) (ok refused : Bool) (held : Held) (new : State) (serves : Serves forms n so.world t u line ok refused now held mid new) where
      abbrev did : Served
      did = serves.did

      world_served : did.world ≡ world_after so.world did.items
      world_served =
          let Ends : Served → Type 0 = λ done. done.world ≡ world_after so.world (done.items ++ [])
          in subst Ends (serves.acts [] (λ ends. refl)) (course_ends forms n so.world t (line ∷ []) (serves.used ++ []))
          ∙ ap (world_after so.world) (append-nil did.items)

      course_next : (later : List (List ℕ)) (future : Space) → (ok ≡ false → future ≡ []) → course forms n w s (gone ++ line ∷ later) (so.past ++ (serves.used ++ future))
          ≡ after so.items (after did.items (course forms n did.world did.session later future))
      course_next later future ends =
          so.split (line ∷ later) (serves.used ++ future)
          ∙ ap (λ (one : Served). after so.items (after one.items (course forms n one.world one.session later one.left))) (serves.acts future ends)

      made_next : made_by w (so.items ++ did.items) ≡ made_by w so.items ++ made_by so.world did.items
      made_next =
          made_append w so.items did.items
          ∙ ap (λ (v : World). made_by w so.items ++ made_by v did.items) (sym so.world_is)

      licensed_next : (entry : Entry) → IsWithin entry [] before → (later : List (List ℕ)) (future : Space) → (ok ≡ false → future ≡ [])
          → Licensed entry (made_by w (so.items ++ did.items)) forms n did.world did.session later future
          → Licensed entry [] forms n w s (gone ++ line ∷ later) (so.past ++ (serves.used ++ future))
      licensed_next entry within later future ends more =
          let Behind : Served → Type 0 = λ one. Licensed entry (made_by w so.items ++ made_by so.world one.items) forms n one.world one.session later one.left
          in let behind : Behind (record did { left = future }) =
          subst (λ (made : List Made). Licensed entry made forms n did.world did.session later future) made_next more
          in so.licensed entry within (line ∷ later) (serves.used ++ future)
          (serves.licensed entry (made_by w so.items) (so.within entry within) future ends, subst Behind (sym (serves.acts future ends)) behind)

      stops_next : (rest : List Item) → Only old.tape new.tape (IsFound w (printed_of old) (so.items ++ (did.items ++ rest)))
      stops_next rest =
          let Found : Image → Type 0 = IsFound w (printed_of old) (so.items ++ (did.items ++ rest))
          in only_then old.tape mid.tape new.tape Found
          (only_wider old.tape mid.tape (IsFound w (printed_of old) so.items) Found
          (λ c found. found_front w (printed_of old) so.items (did.items ++ rest) c found) so.stops)
          (only_wider mid.tape new.tape (IsFound so.world (printed_of mid) did.items) Found
          (λ c found. found_behind w so.world (printed_of old) (printed_of mid) so.items (did.items ++ rest) c so.world_is so.printed
          (found_front so.world (printed_of mid) did.items rest c found)) serves.stops)

    pub so_far_more : (u : Session) (refused : Bool) (held : Held) (new : State) → Serves forms n so.world t u line true refused now held mid new
        → SoFar forms n w s u (gone ++ line ∷ []) (failed || refused) before held old new
    so_far_more u refused held new serves =
        let did : Served = serves.did
        in let all : (future : Space) → true ≡ false → future ≡ [] = λ future off. absurd cc
        in record {
          past = so.past ++ serves.used;
          items = so.items ++ serves.did.items;
          world = serves.did.world;
          split = λ later future.
              (λ i. course forms n w s (append_assoc gone (line ∷ []) later i) (append_assoc so.past serves.used future i))
              ∙ course_next u true refused held new serves later future (all future)
              ∙ after_after so.items serves.did.items (course forms n serves.did.world serves.did.session later future)
              ∙ ap (λ (v : Session). after (so.items ++ serves.did.items) (course forms n serves.did.world v later future)) (serves.session_is refl);
          licensed = λ entry within later future more.
              subst (λ (ls : List (List ℕ)). Licensed entry [] forms n w s ls ((so.past ++ serves.used) ++ future)) (sym (append_assoc gone (line ∷ []) later))
              (subst (λ (space : Space). Licensed entry [] forms n w s (gone ++ line ∷ later) space) (sym (append_assoc so.past serves.used future))
              (licensed_next u true refused held new serves entry within later future (all future)
              (subst (λ (v : Session). Licensed entry (made_by w (so.items ++ serves.did.items)) forms n serves.did.world v later future) (sym (serves.session_is refl)) more)));
          within = λ entry within.
              subst (λ (made : List Made). IsWithin entry made held) (sym (made_next u true refused held new serves))
              (serves.within refl entry (made_by w so.items) (so.within entry within));
          stops = subst (λ (items : List Item). Only old.tape new.tape (IsFound w (printed_of old) (so.items ++ items))) (append-nil serves.did.items)
              (stops_next u true refused held new serves []);
          at = serves.at refl;
          world_is = world_served u true refused held new serves
              ∙ ap (λ (v : World). world_after v serves.did.items) so.world_is ∙ sym (world_append w so.items serves.did.items);
          printed = serves.printed refl
              ∙ ap (λ (text : List ℕ). text ++ play serves.did.items) so.printed
              ∙ append_assoc (printed_of old) (play so.items) (play serves.did.items)
              ∙ ap (λ (text : List ℕ). printed_of old ++ text) (sym (play_append so.items serves.did.items));
          failed_is = (λ i. so.failed_is i || serves.refused_is refl i) ∙ sym (error_append so.items serves.did.items);
        }

    -- the run ends in this line
    pub so_far_ends : (lines later : List (List ℕ)) → lines ≡ gone ++ line ∷ later → (u : Session) (refused : Bool) (held : Held) (new : State)
        → Serves forms n so.world t u line false refused now held mid new → Runs forms n w s lines before old new
    so_far_ends lines later all u refused held new serves =
        let space : Space = so.past ++ (serves.used ++ [])
        in let items : course forms n w s lines space ≡ after so.items (after serves.did.items (course forms n serves.did.world serves.did.session later [])) =
        ap (λ (ls : List (List ℕ)). course forms n w s ls space) all ∙ course_next u false refused held new serves later [] (λ ends. refl)
        in record {
          space = space;
          licensed = λ entry within.
              subst (λ (ls : List (List ℕ)). Licensed entry [] forms n w s ls space) (sym all)
              (licensed_next u false refused held new serves entry within later [] (λ ends. refl)
              (licensed_whole entry (made_by w (so.items ++ serves.did.items)) n serves.did.world serves.did.session later));
          stops = subst (λ (done : Served). Only old.tape new.tape (IsFound w (printed_of old) done.items)) (sym items)
              (stops_next u false refused held new serves (course forms n serves.did.world serves.did.session later []).items);
        }

  -- ---- where it ends

  -- between two lines
  module _ (n : ℕ) (w : World) (s t : Session) (lines gone left : List (List ℕ)) (whole : lines ≡ gone ++ left) (failed : Bool) (before now : Held) (old new : State)
      (so : SoFar forms n w s t gone failed before now old new) where
    abbrev space : Space
    space = so.past ++ []

    gone_is : course forms n w s gone space ≡ record { items = so.items; world = so.world; session = t; left = [] }
    gone_is =
        ap (λ (ls : List (List ℕ)). course forms n w s ls space) (sym (append-nil gone)) ∙ so.split [] []
        ∙ (λ i. record { items = append-nil so.items i; world = so.world; session = t; left = [] })

    all_is : course forms n w s lines space ≡ after so.items (course forms n so.world t left [])
    all_is = ap (λ (ls : List (List ℕ)). course forms n w s ls space) whole ∙ so.split left []

    pub so_far_halts : Halts forms n w s t gone lines failed before now old new
    so_far_halts = record {
      space = space;
      licensed = λ entry within.
          subst (λ (ls : List (List ℕ)). Licensed entry [] forms n w s ls space) (sym whole)
          (so.licensed entry within left [] (licensed_whole entry (made_by w so.items) n so.world t left));
      stops = subst (λ (done : Served). Only old.tape new.tape (IsFound w (printed_of old) done.items)) (sym all_is)
          (only_wider old.tape new.tape (IsFound w (printed_of old) so.items) (IsFound w (printed_of old) (so.items ++ (course forms n so.world t left []).items))
          (λ c found. found_front w (printed_of old) so.items (course forms n so.world t left []).items c found) so.stops);
      printed = subst (λ (done : Served). printed_of new ≡ printed_of old ++ play done.items) (sym gone_is) so.printed;
      at = subst (λ (done : Served). IsAtWorld done.world now new) (sym gone_is) so.at;
      session_is = ap (λ (done : Served). done.session) gone_is;
      failed_is = subst (λ (done : Served). failed ≡ has_error done.items) (sym gone_is) so.failed_is;
    }

  -- a run that ended between two lines ended somewhere
  pub halts_run : (n : ℕ) (w : World) (s t : Session) (gone lines : List (List ℕ)) (failed : Bool) (before now : Held) (old new : State)
      → Halts forms n w s t gone lines failed before now old new → Runs forms n w s lines before old new
  halts_run n w s t gone lines failed before now old new halts = record { space = halts.space; licensed = halts.licensed; stops = halts.stops }

  -- at the last line
  pub so_far_all : (n : ℕ) (w : World) (s t : Session) (lines gone left : List (List ℕ)) (failed : Bool) (before now : Held) (old new : State)
      → lines ≡ gone ++ left → left ≡ [] → SoFar forms n w s t gone failed before now old new → Ends forms n w s t lines failed before now old new
  so_far_all n w s t lines gone left failed before now old new whole none so =
      let same : gone ≡ lines = sym (append-nil gone) ∙ ap (λ (ls : List (List ℕ)). gone ++ ls) (sym none) ∙ sym whole
      in subst (λ (ls : List (List ℕ)). Halts forms n w s t ls lines failed before now old new) same
      (so_far_halts n w s t lines gone left whole failed before now old new so)
