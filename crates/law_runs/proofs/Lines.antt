-- How a line is served: a comment, a command that was done or broken off, and a line that is refused.
use Rattle.std.proofs.Common.{◌≡◌, ◌+◌, ℕ, zero, suc, Bool, true, false, List, [], ◌∷◌, ◌++◌, map, refl, sym, ◌∙◌, ap, subst, append-nil}
use Rattle.std.specs.Prelude.{◌||◌, Option, Some, None}
use Rattle.ov_host.specs.Disk.{Image}
use Rattle.ov_host.specs.Host.{Calls, State}
use Rattle.ov_host.specs.Stops.{Only}
use Rattle.ov_host.specs.Tape.{Prints}
use Rattle.ov_host.proofs.Stops.{only_then, only_wider}
use Rattle.ov_model.specs.Act.{Deed, Session, refuses, unless}
use Rattle.ov_model.specs.Deed.{deed, permitted}
use Rattle.ov_model.specs.Course.{Enough, Full, Item, Makes, NoRun, Room, Says, Served, Space, after, and_steps, attempt, attempts, first, line_served, play, replied, rest, served, step_by, steps, steps_then, world_after}
use Rattle.ov_model.specs.Forms.{Form}
use Rattle.ov_model.specs.Line.{Asks, Comment, Line, Refused, line_of}
use Rattle.ov_model.specs.Moves.{Move, moved}
use Rattle.ov_model.specs.Replies.{reply_text}
use Rattle.ov_model.specs.Steps.{next_step}
use Rattle.ov_model.specs.Users.{line_by, permit, unless_denied}
use Rattle.ov_model.specs.World.{World}
use Rattle.ov_model.specs.declared.command.Command.{Command}
use Rattle.ov_model.specs.declared.refusal.Refusal.{Refusal}
use Rattle.ov_model.specs.declared.reply.Reply.{Reply}
use Rattle.ov_model.specs.declared.reply.Reply.TheVariants as says
use Rattle.ov_model.proofs.Courses.{world_append}
use Rattle.ov_core.specs.AtWorld.{IsAtWorld}
use Rattle.ov_core.specs.Held.{Held}
use Rattle.law_room.specs.Room.{Entry, IsWithin, Made}
use Rattle.law_runs.specs.Licence.{LicensedAfter, LicensedLine, LicensedMoves, LicensedStep, LicensedSteps, made_by}
use Rattle.law_runs.specs.Serving.{Breaks, Does, Serves, has_error, is_error}
use Rattle.law_runs.specs.Stops.{IsFound, printed_of}
use Rattle.law_runs.proofs.Found.{at_same_tape, found_behind, found_front, looked_found, printed_at, printed_more, printing}
use Rattle.law_runs.proofs.Doing.{does_told, within_still}
use Rattle.law_runs.proofs.Moving.{play_none}
use Rattle.law_runs.proofs.Steps.{and_no_steps}

-- ---- where no answer for room is left, all takes place

attempts_leave : (d : Deed) (s : Session) (taken : ℕ) (ms : List Move) (w : World) → (attempts d s taken ms w []).left ≡ []
attempts_leave d s taken [] w = refl
attempts_leave d s taken (m ∷ ms) w = attempts_leave d s (taken + 1) ms (moved m w)

steps_leave : (n : ℕ) (s : Session) (w : World) → (steps n s w []).left ≡ []
steps_leave zero s w = refl
steps_leave (suc n) s w = by (next_step w) (λ v. steps_leave n s v)
  where
    by : (next : Option Move) → ((v : World) → (steps n s v []).left ≡ []) → (step_by (steps n s) w s [] next).left ≡ []
    by None more = refl
    by (Some m) more = more (moved m w)

both_leave : (n : ℕ) (done : Served) → done.left ≡ [] → (and_steps n done).left ≡ []
both_leave n done none = ap (λ (space : Space). (steps n done.session done.world space).left) none ∙ steps_leave n done.session done.world

moves_licensed : (entry : Entry) (before : List Made) (ms : List Move) (w : World) → LicensedMoves entry before ms w []
moves_licensed entry before [] w = tt
moves_licensed entry before (m ∷ ms) w = moves_licensed entry (before ++ record { move = m; world = w } ∷ []) ms (moved m w)

pub steps_licensed : (n : ℕ) (entry : Entry) (before : List Made) (w : World) → LicensedSteps n entry before w []
steps_licensed zero entry before w = tt
steps_licensed (suc n) entry before w = by (next_step w) (λ made v. steps_licensed n entry made v)
  where
    by : (next : Option Move) → ((made : List Made) (v : World) → LicensedSteps n entry made v []) → LicensedStep (LicensedSteps n entry) entry before w [] next
    by None more = tt
    by (Some m) more = more (before ++ record { move = m; world = w } ∷ []) (moved m w)

-- so it is with a line
pub line_leaves : (n : ℕ) (w : World) (s : Session) (line : Line) → (line_served n w s [] line).left ≡ []
line_leaves n w s Comment = refl
line_leaves n w s (Asks command) =
    both_leave n (attempts (deed w s command) s 0 (deed w s command).moves w []) (attempts_leave (deed w s command) s 0 (deed w s command).moves w)
line_leaves n w s (Refused refusal) = both_leave n (replied (says.Refused refusal) w s []) refl

pub line_licensed : (n : ℕ) (entry : Entry) (past : List Made) (w : World) (s : Session) (line : Line) → LicensedLine n entry past w s [] line
line_licensed n entry past w s Comment = tt
line_licensed n entry past w s (Asks command) =
    let moves : Served = attempts (deed w s command) s 0 (deed w s command).moves w []
    in (
      moves_licensed entry past (deed w s command).moves w,
      subst (λ (space : Space). LicensedSteps n entry (past ++ made_by w moves.items) moves.world space) (sym (attempts_leave (deed w s command) s 0 (deed w s command).moves w))
          (steps_licensed n entry (past ++ made_by w moves.items) moves.world),
    )
line_licensed n entry past w s (Refused refusal) = steps_licensed n entry past w

-- ---- moves and then a reply

abbrev all : List Move → Reply → List Item
all moves reply = map Makes moves ++ Says reply ∷ []

made_all : (w : World) (moves : List Move) (reply : Reply) → made_by w (all moves reply) ≡ made_by w (map Makes moves)
made_all w [] reply = refl
made_all w (m ∷ moves) reply = ap (λ (more : List Made). record { move = m; world = w } ∷ more) (made_all (moved m w) moves reply)

play_all : (moves : List Move) (reply : Reply) → play (all moves reply) ≡ reply_text reply
play_all [] reply = append-nil (reply_text reply)
play_all (m ∷ moves) reply = play_all moves reply

pub or_false : (b : Bool) → (b || false) ≡ b
or_false true = refl
or_false false = refl

error_all : (moves : List Move) (reply : Reply) → is_error reply ≡ has_error (all moves reply)
error_all [] reply = sym (or_false (is_error reply))
error_all (m ∷ moves) reply = error_all moves reply

attempt_ends : (room : Room) (taken : Option (ℕ × ℕ)) (w : World) (s : Session) (space : Space) (more : Served) → more.world ≡ world_after w more.items
    → (attempt room taken w s space more).world ≡ world_after w (attempt room taken w s space more).items
attempt_ends Enough taken w s space more ends = ends
attempt_ends (NoRun pages) taken w s space more ends = refl
attempt_ends Full taken w s space more ends = refl

-- the World that a command leaves is the one after its moves
attempts_end : (d : Deed) (s : Session) (taken : ℕ) (ms : List Move) (w : World) (space : Space) → (attempts d s taken ms w space).world ≡ world_after w (attempts d s taken ms w space).items
attempts_end d s taken [] w space = refl
attempts_end d s taken (m ∷ ms) w space =
    attempt_ends (first space) (steps_then d.counts_steps taken w) w s (rest space) (after (Makes m ∷ []) (attempts d s (taken + 1) ms (moved m w) (rest space)))
    (attempts_end d s (taken + 1) ms (moved m w) (rest space))

-- ---- what a line says of a user

no_line : {X : Type 0} (command : Command) (refusal : Refusal) → Refused refusal ≡ Asks command → X
no_line command refusal e = absurd cc

no_refusal : {X : Type 0} (command : Command) (refusal : Refusal) → Asks command ≡ Refused refusal → X
no_refusal command refusal e = absurd cc

asked_if : (found : Option Refusal) (a command : Command) → unless_denied found a ≡ Asks command → (a ≡ command) × (found ≡ None)
asked_if None a command e = (cc, refl)
asked_if (Some refusal) a command e = no_line command refusal e

-- no rule denies what it asks
pub asked_by : (user : List ℕ) (l : Line) (command : Command) → line_by user l ≡ Asks command → (l ≡ Asks command) × (permit user command ≡ None)
asked_by user Comment command e = absurd cc
asked_by user (Asks a) command e =
    let both = asked_if (permit user a) a command e
    in (ap Asks both.0, sym (ap (permit user) both.0) ∙ both.1)
asked_by user (Refused refusal) command e = no_line command refusal e

refused_if : (found : Option Refusal) (a : Command) (refusal : Refusal) → unless_denied found a ≡ Refused refusal → found ≡ Some refusal
refused_if None a refusal e = no_refusal a refusal e
refused_if (Some x) a refusal e = cc

-- what no rule denies is done as it is by itself
pub does_permitted : (w : World) (s t : Session) (command : Command) (reply : Reply) (before now : Held) (old new : State) → permit s.user command ≡ None
    → Does (permitted w s command) s t w reply before now old new → Does (deed w s command) s t w reply before now old new
does_permitted w s t command reply before now old new free does =
    subst (λ (o : Option Refusal). Does (unless s o (permitted w s command)) s t w reply before now old new) (sym free) does

pub breaks_permitted : (w : World) (s : Session) (command : Command) (old new : State) → permit s.user command ≡ None
    → Breaks (permitted w s command) s w old new → Breaks (deed w s command) s w old new
breaks_permitted w s command old new free breaks =
    subst (λ (o : Option Refusal). Breaks (unless s o (permitted w s command)) s w old new) (sym free) breaks

module _ (forms : List Form) where
  -- ---- a line that is served as a deed is

  -- what it does and says is what the deed does, and then steps; and so it is licensed
  pub record IsServed (n : ℕ) (w : World) (s : Session) (line : List ℕ) (d : Deed) : Type 0 where
    pub acts : (space : Space) → served forms n w s line space ≡ and_steps n (attempts d s 0 d.moves w space)
    pub licensed : (entry : Entry) (past : List Made) (space : Space) → LicensedMoves entry past d.moves w space
        → LicensedAfter n entry past w (attempts d s 0 d.moves w space) → LicensedLine n entry past w s space (line_of forms line)

  asks_served : (n : ℕ) (w : World) (s : Session) (line : List ℕ) (command : Command) → line_of forms line ≡ Asks command → IsServed n w s line (deed w s command)
  asks_served n w s line command is = record {
    acts = λ space. ap (line_served n w s space) is;
    licensed = λ entry past space moves after. subst (LicensedLine n entry past w s space) (sym is) (moves, after);
  }

  refusal_served : (n : ℕ) (w : World) (s : Session) (line : List ℕ) (refusal : Refusal) → line_of forms line ≡ Refused refusal → IsServed n w s line (refuses s refusal)
  refusal_served n w s line refusal is = record {
    acts = λ space. ap (line_served n w s space) is;
    licensed = λ entry past space moves after.
        subst (LicensedLine n entry past w s space) (sym is) (subst (λ (made : List Made). LicensedSteps n entry made w space) (append-nil past) after);
  }

  denied_served : (n : ℕ) (w : World) (s : Session) (line : List ℕ) (command : Command) (refusal : Refusal) → line_of forms line ≡ Asks command → permit s.user command ≡ Some refusal
      → IsServed n w s line (refuses s refusal)
  denied_served n w s line command refusal is denied =
      subst (IsServed n w s line) (ap (λ (o : Option Refusal). unless s o (permitted w s command)) denied) (asks_served n w s line command is)

  refused_by : (n : ℕ) (w : World) (s : Session) (line : List ℕ) (refusal : Refusal) (l : Line) → line_of forms line ≡ l → line_by s.user l ≡ Refused refusal → IsServed n w s line (refuses s refusal)
  refused_by n w s line refusal Comment is e = absurd cc
  refused_by n w s line refusal (Asks command) is e = denied_served n w s line command refusal is (refused_if (permit s.user command) command refusal e)
  refused_by n w s line refusal (Refused x) is e = refusal_served n w s line refusal (is ∙ e)

  -- it is refused, by the line itself or by a rule
  pub served_refused : (n : ℕ) (w : World) (s : Session) (line : List ℕ) (refusal : Refusal) → line_by s.user (line_of forms line) ≡ Refused refusal → IsServed n w s line (refuses s refusal)
  served_refused n w s line refusal e = refused_by n w s line refusal (line_of forms line) refl e

  -- it was done or refused, and its reply was printed, in part or whole; no step is asked for
  module _ (w : World) (s t : Session) (line : List ℕ) (d : Deed) (reply : Reply) (before now : Held) (old mid new : State) (is : IsServed 0 w s line d)
      (does : Does d s t w reply before now old mid) (prints : Only mid.tape new.tape (IsFound does.world (printed_of mid) (Says reply ∷ []))) where
    abbrev did : Served
    did = record { items = all does.moves reply; world = does.world; session = t; left = [] }

    acts : (future : Space) → served forms 0 w s line (does.used ++ future) ≡ record did { left = future }
    acts future =
        is.acts (does.used ++ future) ∙ ap (and_steps 0) (does.did future)
        ∙ and_no_steps (record { items = all does.moves reply; world = does.world; session = t; left = future })

    licensed : (entry : Entry) (past : List Made) → IsWithin entry past before → (future : Space) → LicensedLine 0 entry past w s (does.used ++ future) (line_of forms line)
    licensed entry past within future = is.licensed entry past (does.used ++ future) (does.licensed entry past within future) tt

    within_all : (entry : Entry) (past : List Made) → IsWithin entry past before → IsWithin entry (past ++ made_by w (all does.moves reply)) now
    within_all entry past within =
        subst (λ (made : List Made). IsWithin entry (past ++ made) now) (sym (made_all w does.moves reply)) (does.within entry past within)

    world_is : does.world ≡ world_after w (map Makes does.moves)
    world_is =
        subst (λ (done : Served). done.world ≡ world_after w done.items) (does.did []) (attempts_end d s 0 d.moves w (does.used ++ []))
        ∙ world_append w (map Makes does.moves) (Says reply ∷ [])

    printed_mid : printed_of mid ≡ printed_of old ++ play (map Makes does.moves)
    printed_mid = does.printed ∙ sym (append-nil (printed_of old)) ∙ ap (λ (text : List ℕ). printed_of old ++ text) (sym (play_none does.moves))

    stops : Only old.tape new.tape (IsFound w (printed_of old) (all does.moves reply))
    stops =
        let Found : Image → Type 0 = IsFound w (printed_of old) (all does.moves reply)
        in only_then old.tape mid.tape new.tape Found
        (only_wider old.tape mid.tape (IsFound w (printed_of old) (map Makes does.moves)) Found
        (λ c found. found_front w (printed_of old) (map Makes does.moves) (Says reply ∷ []) c found) does.stops)
        (only_wider mid.tape new.tape (IsFound does.world (printed_of mid) (Says reply ∷ [])) Found
        (λ c found. found_behind w does.world (printed_of old) (printed_of mid) (map Makes does.moves) (Says reply ∷ []) c world_is printed_mid found) prints)

    -- whole
    said : IsAtWorld does.world now new → printed_of new ≡ printed_of mid ++ reply_text reply → Serves forms 0 w s t line true (is_error reply) before now old new
    said at printed = record {
      used = does.used;
      did = did;
      acts = λ future ends. acts future;
      licensed = λ entry past within future ends. licensed entry past within future;
      within = λ ok entry past within. within_all entry past within;
      stops = stops;
      at = λ ok. at;
      printed = λ ok.
          printed ∙ ap (λ (text : List ℕ). text ++ reply_text reply) does.printed
          ∙ ap (λ (text : List ℕ). printed_of old ++ text) (sym (play_all does.moves reply));
      session_is = λ ok. refl;
      refused_is = λ ok. error_all does.moves reply;
    }

    -- the run ends here
    unsaid : (u : Session) (refused : Bool) (later : Held) → Serves forms 0 w s u line false refused before later old new
    unsaid u refused later = record {
      used = does.used;
      did = did;
      acts = λ future ends. acts future;
      licensed = λ entry past within future ends. licensed entry past within future;
      within = λ ok. absurd cc;
      stops = stops;
      at = λ ok. absurd cc;
      printed = λ ok. absurd cc;
      session_is = λ ok. absurd cc;
      refused_is = λ ok. absurd cc;
    }

  -- ---- lines

  -- a comment is nothing
  pub serves_comment : (n : ℕ) (w : World) (s : Session) (line : List ℕ) (held : Held) (old new : State) → line_of forms line ≡ Comment → IsAtWorld w held old
      → new.tells ≡ old.tells → new.tape ≡ old.tape → Serves forms n w s s line true false held held old new
  serves_comment n w s line held old new is at told tape = record {
    used = [];
    did = record { items = []; world = w; session = s; left = [] };
    acts = λ future ends. ap (line_served n w s future) is;
    licensed = λ entry past within future ends. subst (LicensedLine n entry past w s future) (sym is) tt;
    within = λ ok entry past within. within_still entry past held within;
    stops = looked_found w held old new [] at tape;
    at = λ ok. at_same_tape w held old new told tape at;
    printed = λ ok. ap (λ u. u.disk.printed) tape ∙ sym (append-nil (printed_of old));
    session_is = λ ok. refl;
    refused_is = λ ok. refl;
  }

  module _ (w : World) (s t : Session) (line : List ℕ) (command : Command) (reply : Reply) (before now : Held) (old mid new : State)
      (asks : line_of forms line ≡ Asks command) (does : Does (deed w s command) s t w reply before now old mid) where
    -- a command was done or refused, and its reply was printed
    pub serves_reply : (ok : Bool) (bytes : List ℕ) → bytes ≡ reply_text reply → ok ≡ true → Calls (Prints bytes) ok mid new
        → Serves forms 0 w s t line true (is_error reply) before now old new
    serves_reply ok bytes text is call =
        said w s t line (deed w s command) reply before now old mid new (asks_served 0 w s line command asks) does
        (printing does.world now reply mid new ok bytes text does.at call)
        (printed_at does.world now mid new ok bytes is does.at call)
        (printed_more does.world now mid new ok bytes is does.at call ∙ ap (λ (b : List ℕ). printed_of mid ++ b) text)

    -- the print failed
    pub serves_unsaid : (ok : Bool) (bytes : List ℕ) (u : Session) (refused : Bool) (later : Held) → bytes ≡ reply_text reply → Calls (Prints bytes) ok mid new
        → Serves forms 0 w s u line false refused before later old new
    serves_unsaid ok bytes u refused later text call =
        unsaid w s t line (deed w s command) reply before now old mid new (asks_served 0 w s line command asks) does
        (printing does.world now reply mid new ok bytes text does.at call) u refused later

    -- nothing was printed
    pub serves_silent : (u : Session) (refused : Bool) (later : Held) → new.tape ≡ mid.tape → Serves forms 0 w s u line false refused before later old new
    serves_silent u refused later tape =
        unsaid w s t line (deed w s command) reply before now old mid new (asks_served 0 w s line command asks) does
        (looked_found does.world now mid new (Says reply ∷ []) does.at tape) u refused later

  -- a command was broken off: what was to come counts as met by no refusal
  module _ (n : ℕ) (w : World) (s t : Session) (line : List ℕ) (command : Command) (refused : Bool) (before later : Held) (old new : State)
      (asks : line_of forms line ≡ Asks command) (breaks : Breaks (deed w s command) s w old new) where
    abbrev d : Deed
    d = deed w s command

    abbrev moves : Served
    moves = attempts d s 0 d.moves w []

    abbrev done : Served
    done = and_steps n moves

    by : IsServed n w s line d
    by = asks_served n w s line command asks

    acts_whole : (future : Space) → future ≡ [] → served forms n w s line future ≡ record done { left = future }
    acts_whole future none =
        by.acts future
        ∙ ap (λ (space : Space). and_steps n (attempts d s 0 d.moves w space)) none
        ∙ (λ i. record done { left = (both_leave n moves (attempts_leave d s 0 d.moves w) ∙ sym none) i })

    licensed_whole : (entry : Entry) (past : List Made) (future : Space) → future ≡ [] → LicensedLine n entry past w s future (line_of forms line)
    licensed_whole entry past future none =
        subst (λ (space : Space). LicensedLine n entry past w s space (line_of forms line)) (sym none)
        (line_licensed n entry past w s (line_of forms line))

    pub serves_broken : Serves forms n w s t line false refused before later old new
    serves_broken = record {
      used = [];
      did = done;
      acts = λ future ends. acts_whole future (ends refl);
      licensed = λ entry past within future ends. licensed_whole entry past future (ends refl);
      within = λ ok. absurd cc;
      stops = only_wider old.tape new.tape (IsFound w (printed_of old) moves.items) (IsFound w (printed_of old) done.items)
          (λ c found. found_front w (printed_of old) moves.items (steps n moves.session moves.world moves.left).items c found) breaks;
      at = λ ok. absurd cc;
      printed = λ ok. absurd cc;
      session_is = λ ok. absurd cc;
      refused_is = λ ok. absurd cc;
    }

  -- a line that is refused, at a World
  module _ (w : World) (s : Session) (line : List ℕ) (refusal : Refusal) (held : Held) (old new : State)
      (is : IsServed 0 w s line (refuses s refusal)) (at : IsAtWorld w held old) where
    told : Does (refuses s refusal) s s w (says.Refused refusal) held held old old
    told = does_told (refuses s refusal) s s w (says.Refused refusal) held old old refl at refl refl

    -- it was printed
    pub serves_refusal : (ok : Bool) (bytes : List ℕ) → bytes ≡ reply_text (says.Refused refusal) → ok ≡ true → Calls (Prints bytes) ok old new
        → Serves forms 0 w s s line true true held held old new
    serves_refusal ok bytes text good call =
        said w s s line (refuses s refusal) (says.Refused refusal) held held old old new is told
        (printing told.world held (says.Refused refusal) old new ok bytes text told.at call)
        (printed_at told.world held old new ok bytes good told.at call)
        (printed_more told.world held old new ok bytes good told.at call ∙ ap (λ (b : List ℕ). printed_of old ++ b) text)

    -- the print failed
    pub serves_refusal_unsaid : (ok : Bool) (bytes : List ℕ) (u : Session) (refused : Bool) (later : Held) → bytes ≡ reply_text (says.Refused refusal) → Calls (Prints bytes) ok old new
        → Serves forms 0 w s u line false refused held later old new
    serves_refusal_unsaid ok bytes u refused later text call =
        unsaid w s s line (refuses s refusal) (says.Refused refusal) held held old old new is told
        (printing told.world held (says.Refused refusal) old new ok bytes text told.at call) u refused later

    -- nothing was printed
    pub serves_refusal_silent : (u : Session) (refused : Bool) (later : Held) → new.tape ≡ old.tape → Serves forms 0 w s u line false refused held later old new
    serves_refusal_silent u refused later tape =
        unsaid w s s line (refuses s refusal) (says.Refused refusal) held held old old new is told
        (looked_found told.world held old new (Says (says.Refused refusal) ∷ []) told.at tape) u refused later
