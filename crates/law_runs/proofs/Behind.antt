-- Steps behind a line: a line that was served as if no step were asked for, and then its steps.
use Rattle.std.proofs.Common.{◌≡◌, ℕ, Bool, true, false, List, [], ◌∷◌, ◌++◌, refl, sym, ◌∙◌, ap, subst, append-nil, append_assoc}
use Rattle.std.specs.Prelude.{◌||◌, ◌≢◌}
use Rattle.ov_host.specs.Disk.{Image}
use Rattle.ov_host.specs.Host.{State}
use Rattle.ov_host.specs.Stops.{Only}
use Rattle.ov_host.proofs.Stops.{only_then, only_wider}
use Rattle.ov_model.specs.Act.{Session}
use Rattle.ov_model.specs.Forms.{Form}
use Rattle.ov_model.specs.Course.{Item, Served, Space, after, and_steps, attempts, line_served, play, replied, served, world_after}
use Rattle.ov_model.specs.Deed.{deed}
use Rattle.ov_model.specs.Line.{Asks, Comment, Line, Refused, line_of}
use Rattle.ov_model.specs.Moves.{Move}
use Rattle.ov_model.specs.Steps.{next_steps}
use Rattle.ov_model.specs.World.{World}
use Rattle.ov_model.specs.declared.command.Command.{Command}
use Rattle.ov_model.specs.declared.refusal.Refusal.{Refusal}
use Rattle.ov_model.specs.declared.reply.Reply.TheVariants as says
use Rattle.ov_model.proofs.Courses.{course_ends, play_append}
use Rattle.ov_core.specs.Held.{Held}
use Rattle.law_room.specs.Room.{Entry, IsWithin, Made}
use Rattle.law_runs.specs.Licence.{LicensedAfter, LicensedLine, LicensedSteps, made_by}
use Rattle.law_runs.specs.Serving.{Serves, has_error}
use Rattle.law_runs.specs.Stepping.{IsStepped}
use Rattle.law_runs.specs.Stops.{IsFound, printed_of}
use Rattle.law_runs.proofs.Found.{found_behind, found_front}
use Rattle.law_runs.proofs.Lines.{or_false, steps_licensed}
use Rattle.law_runs.proofs.Moving.{made, play_none}
use Rattle.law_runs.proofs.Runs.{error_append, made_append}
use Rattle.law_runs.proofs.Stepping.{steps_all}
use Rattle.law_runs.proofs.Steps.{and_no_steps}

error_false : (moves : List Move) → has_error (made moves) ≡ false
error_false [] = refl
error_false (m ∷ moves) = error_false moves

-- ---- lines that have a reply

pub asks_some : (l : Line) (command : Command) → l ≡ Asks command → l ≢ Comment
asks_some l command is none = by (sym is ∙ none)
  where
    by : Asks command ≡ Comment → ⊥
    by e = absurd cc

pub refused_some : (l : Line) (refusal : Refusal) → l ≡ Refused refusal → l ≢ Comment
refused_some l refusal is none = by (sym is ∙ none)
  where
    by : Refused refusal ≡ Comment → ⊥
    by e = absurd cc

-- such a line is served without steps, and then its steps come

with_steps : (n : ℕ) (w : World) (s : Session) (space : Space) (line : Line) → line ≢ Comment → line_served n w s space line ≡ and_steps n (line_served 0 w s space line)
with_steps n w s space Comment some = absurd (some refl)
with_steps n w s space (Asks command) some = ap (and_steps n) (sym (and_no_steps (attempts (deed w s command) s 0 (deed w s command).moves w space)))
with_steps n w s space (Refused refusal) some = ap (and_steps n) (sym (and_no_steps (replied (says.Refused refusal) w s space)))

licensed_with : (n : ℕ) (entry : Entry) (past : List Made) (w : World) (s : Session) (space : Space) (line : Line)
    → LicensedLine 0 entry past w s space line → LicensedAfter n entry past w (line_served 0 w s space line) → LicensedLine n entry past w s space line
licensed_with n entry past w s space Comment line behind = tt
licensed_with n entry past w s space (Asks command) line behind = (
  line.0,
  subst (LicensedAfter n entry past w) (and_no_steps (attempts (deed w s command) s 0 (deed w s command).moves w space)) behind,
)
licensed_with n entry past w s space (Refused refusal) line behind =
    subst (λ (before : List Made). LicensedSteps n entry before w space) (append-nil past) behind

module _ (forms : List Form) where
  -- the World that a line leaves is the one after its moves
  served_ends : (n : ℕ) (w : World) (s : Session) (line : List ℕ) (space : Space) → (served forms n w s line space).world ≡ world_after w (served forms n w s line space).items
  served_ends n w s line space =
      course_ends forms n w s (line ∷ []) space ∙ ap (world_after w) (append-nil (served forms n w s line space).items)

  module _ (n : ℕ) (w : World) (s t : Session) (line : List ℕ) (some : line_of forms line ≢ Comment) (good refused : Bool) (before now : Held) (old mid : State)
      (a : Serves forms 0 w s t line good refused before now old mid) where
    -- the line and then its steps, where these answers for room are behind
    acts_with : (future : Space) → (good ≡ false → future ≡ []) → served forms n w s line (a.used ++ future) ≡ and_steps n (record a.did { left = future })
    acts_with future none =
        with_steps n w s (a.used ++ future) (line_of forms line) some ∙ ap (and_steps n) (a.acts future none)

    licensed_behind : (entry : Entry) (past : List Made) → IsWithin entry past before → (future : Space) → (good ≡ false → future ≡ [])
        → LicensedSteps n entry (past ++ made_by w a.did.items) a.did.world future → LicensedLine n entry past w s (a.used ++ future) (line_of forms line)
    licensed_behind entry past within future none behind =
        licensed_with n entry past w s (a.used ++ future) (line_of forms line) (a.licensed entry past within future none)
        (subst (LicensedAfter n entry past w) (sym (a.acts future none)) behind)

    stops_with : (behind : List Item) → Only old.tape mid.tape (IsFound w (printed_of old) (a.did.items ++ behind))
    stops_with behind =
        only_wider old.tape mid.tape (IsFound w (printed_of old) a.did.items) (IsFound w (printed_of old) (a.did.items ++ behind))
        (λ c found. found_front w (printed_of old) a.did.items behind c found) a.stops

    pub did_ends : a.did.world ≡ world_after w a.did.items
    did_ends =
        subst (λ (done : Served). done.world ≡ world_after w done.items) (a.acts [] (λ off. refl)) (served_ends 0 w s line (a.used ++ []))

  -- the reply was printed, and the steps ended or were broken off
  module _ (n : ℕ) (w : World) (s t : Session) (line : List ℕ) (some : line_of forms line ≢ Comment) (ok refused : Bool) (before at_reply now : Held) (old mid new : State)
      (a : Serves forms 0 w s t line true refused before at_reply old mid) (b : IsStepped n a.did.world ok at_reply now mid new) where
    on : (future : Space) → true ≡ false → future ≡ []
    on future off = absurd cc

    abbrev items : List Item
    items = a.did.items ++ made b.moves

    ends : a.did.world ≡ world_after w a.did.items
    ends = did_ends 0 w s t line some true refused before at_reply old mid a

    acts : (future : Space) → (ok ≡ false → future ≡ []) → served forms n w s line ((a.used ++ b.used) ++ future)
        ≡ record { items = items; world = b.world; session = a.did.session; left = future }
    acts future none =
        ap (served forms n w s line) (append_assoc a.used b.used future)
        ∙ acts_with n w s t line some true refused before at_reply old mid a (b.used ++ future) (on (b.used ++ future))
        ∙ ap (after a.did.items) (b.acts a.did.session future none)

    licensed : (entry : Entry) (past : List Made) → IsWithin entry past before → (future : Space) → (ok ≡ false → future ≡ [])
        → LicensedLine n entry past w s ((a.used ++ b.used) ++ future) (line_of forms line)
    licensed entry past within future none =
        subst (λ (space : Space). LicensedLine n entry past w s space (line_of forms line)) (sym (append_assoc a.used b.used future))
        (licensed_behind n w s t line some true refused before at_reply old mid a entry past within (b.used ++ future) (on (b.used ++ future))
        (b.licensed entry (past ++ made_by w a.did.items) (a.within refl entry past within) future none))

    within_all : ok ≡ true → (entry : Entry) (past : List Made) → IsWithin entry past before → IsWithin entry (past ++ made_by w items) now
    within_all is entry past within =
        subst (λ (ms : List Made). IsWithin entry ms now)
        (append_assoc past (made_by w a.did.items) (made_by a.did.world (made b.moves))
        ∙ ap (λ (v : World). past ++ (made_by w a.did.items ++ made_by v (made b.moves))) ends
        ∙ ap (λ (ms : List Made). past ++ ms) (sym (made_append w a.did.items (made b.moves))))
        (b.within is entry (past ++ made_by w a.did.items) (a.within refl entry past within))

    stops : Only old.tape new.tape (IsFound w (printed_of old) items)
    stops =
        let Found : Image → Type 0 = IsFound w (printed_of old) items
        in only_then old.tape mid.tape new.tape Found (stops_with 0 w s t line some true refused before at_reply old mid a (made b.moves))
        (only_wider mid.tape new.tape (IsFound a.did.world (printed_of mid) (made b.moves)) Found
        (λ c found. found_behind w a.did.world (printed_of old) (printed_of mid) a.did.items (made b.moves) c ends (a.printed refl) found) b.stops)

    printed : ok ≡ true → printed_of new ≡ printed_of old ++ play items
    printed is =
        b.printed is ∙ a.printed refl
        ∙ ap (λ (text : List ℕ). printed_of old ++ text)
        (sym (append-nil (play a.did.items)) ∙ ap (λ (text : List ℕ). play a.did.items ++ text) (sym (play_none b.moves)) ∙ sym (play_append a.did.items (made b.moves)))

    refused_is : refused ≡ has_error items
    refused_is =
        a.refused_is refl ∙ sym (or_false (has_error a.did.items)) ∙ ap (λ (e : Bool). has_error a.did.items || e) (sym (error_false b.moves))
        ∙ sym (error_append a.did.items (made b.moves))

    pub serves_stepped : Serves forms n w s t line ok refused before now old new
    serves_stepped = record {
      used = a.used ++ b.used;
      did = record { items = items; world = b.world; session = a.did.session; left = [] };
      acts = acts;
      licensed = licensed;
      within = within_all;
      stops = stops;
      at = b.at;
      printed = printed;
      session_is = λ is. a.session_is refl;
      refused_is = λ is. refused_is;
    }

  -- the run ended in the line: what was to come counts as met by no refusal, its steps too
  module _ (n : ℕ) (w : World) (s t : Session) (line : List ℕ) (some : line_of forms line ≢ Comment) (refused : Bool) (before now : Held) (old new : State)
      (a : Serves forms 0 w s t line false refused before now old new) where
    abbrev behind : List Move
    behind = next_steps n a.did.world

    abbrev done : Served
    done = record { items = a.did.items ++ made behind; world = world_after a.did.world (made behind); session = a.did.session; left = [] }

    acts_whole : (future : Space) → future ≡ [] → served forms n w s line (a.used ++ future) ≡ record done { left = future }
    acts_whole future none =
        acts_with n w s t line some false refused before now old new a future (λ off. none)
        ∙ subst (λ (space : Space). and_steps n (record a.did { left = space }) ≡ record done { left = space }) (sym none)
        (ap (after a.did.items) (steps_all n a.did.session a.did.world))

    pub serves_unstepped : Serves forms n w s t line false refused before now old new
    serves_unstepped = record {
      used = a.used;
      did = done;
      acts = λ future none. acts_whole future (none refl);
      licensed = λ entry past within future none.
          licensed_behind n w s t line some false refused before now old new a entry past within future none
          (subst (λ (space : Space). LicensedSteps n entry (past ++ made_by w a.did.items) a.did.world space) (sym (none refl))
          (steps_licensed n entry (past ++ made_by w a.did.items) a.did.world));
      within = λ ok. absurd cc;
      stops = stops_with n w s t line some false refused before now old new a (made behind);
      at = λ ok. absurd cc;
      printed = λ ok. absurd cc;
      session_is = λ ok. absurd cc;
      refused_is = λ ok. absurd cc;
    }

  -- where the run ends in a line, nothing is said of the session, of what the store keeps, and of whether it was refused
  pub serves_ended : (n : ℕ) (w : World) (s t u : Session) (line : List ℕ) (refused other : Bool) (before now later : Held) (old new : State)
      → Serves forms n w s t line false refused before now old new → Serves forms n w s u line false other before later old new
  serves_ended n w s t u line refused other before now later old new a = record {
    used = a.used;
    did = a.did;
    acts = a.acts;
    licensed = a.licensed;
    within = λ ok. absurd cc;
    stops = a.stops;
    at = λ ok. absurd cc;
    printed = λ ok. absurd cc;
    session_is = λ ok. absurd cc;
    refused_is = λ ok. absurd cc;
  }
