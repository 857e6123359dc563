-- How several calls of the store do what a command means, one move each, or break off in it.
use Rattle.std.proofs.Common.{◌≡◌, ◌+◌, ℕ, Bool, true, false, List, [], ◌∷◌, ◌++◌, length, None, refl, sym, ◌∙◌, ap, subst, append-nil, append_assoc, arith}
use Rattle.std.specs.Prelude.{Option, Some}
use Rattle.std.proofs.lemmas.List.{map-append}
use Rattle.ov_host.specs.Host.{State}
use Rattle.ov_host.specs.Stops.{Only}
use Rattle.ov_model.specs.Act.{Deed, Session}
use Rattle.ov_model.specs.Course.{Full, Item, Makes, NoRun, Room, Says, Space, after, attempts, replied, steps_then, world_after}
use Rattle.ov_model.specs.Moves.{Move, moved}
use Rattle.ov_model.specs.Steps.{steps_left}
use Rattle.ov_model.specs.World.{World}
use Rattle.ov_model.specs.declared.refusal.Refusal.TheVariants as no
use Rattle.ov_model.specs.declared.reply.Reply.{Reply}
use Rattle.ov_model.specs.declared.reply.Reply.TheVariants as says
use Rattle.ov_core.specs.AtWorld.{IsAtWorld, IsEither}
use Rattle.ov_core.specs.Held.{Held}
use Rattle.law_room.specs.Room.{Entry, IsWithin, LacksRecord, LacksRun, Made}
use Rattle.law_runs.specs.Licence.{LicensedMoves, made_by}
use Rattle.law_runs.specs.Moving.{IsMoved}
use Rattle.law_runs.specs.Serving.{Breaks, Does}
use Rattle.law_runs.specs.Stops.{IsFound, printed_of}
use Rattle.law_runs.proofs.Doing.{within_still}
use Rattle.law_runs.proofs.Found.{at_same_tape, looked_found}
use Rattle.law_runs.proofs.Moving.{enough, made, stops_here, stops_next, within_more, world_more}
use Rattle.law_moves.specs.Doing.{IsDoing}

-- ---- attempts that take place

module _ (d : Deed) (s : Session) where
  attempts_made : (moves left : List Move) (taken : ℕ) (w : World) (space : Space)
      → attempts d s taken (moves ++ left) w (enough moves ++ space) ≡ after (made moves) (attempts d s (taken + length moves) left (world_after w (made moves)) space)
  attempts_made [] left taken w space =
      let same : taken ≡ taken + 0 = omega arith
      in ap (λ n. attempts d s n left w space) same
  attempts_made (m ∷ moves) left taken w space =
      let same : taken + 1 + length moves ≡ taken + length (m ∷ moves) = omega arith
      in ap (after (Makes m ∷ [])) (attempts_made moves left (taken + 1) (moved m w) space)
      ∙ ap (λ n. after (made (m ∷ moves)) (attempts d s n left (world_after (moved m w) (made moves)) space)) same

  -- where no answer for room is left, all take place
  attempts_all : (moves : List Move) (taken : ℕ) (w : World) → (attempts d s taken moves w []).items ≡ made moves ++ Says d.reply ∷ []
  attempts_all [] taken w = refl
  attempts_all (m ∷ moves) taken w = ap (λ (items : List Item). Makes m ∷ items) (attempts_all moves (taken + 1) (moved m w))

licensed_made : (entry : Entry) (past : List Made) (moves left : List Move) (w : World) (space : Space)
    → LicensedMoves entry (past ++ made_by w (made moves)) left (world_after w (made moves)) space → LicensedMoves entry past (moves ++ left) w (enough moves ++ space)
licensed_made entry past [] left w space more = subst (λ (ms : List Made). LicensedMoves entry ms left w space) (append-nil past) more
licensed_made entry past (m ∷ moves) left w space more =
    licensed_made entry (past ++ record { move = m; world = w } ∷ []) moves left (moved m w) space
    (subst (λ (ms : List Made). LicensedMoves entry ms left (world_after (moved m w) (made moves)) space)
    (sym (append_assoc past (record { move = m; world = w } ∷ []) (made_by (moved m w) (made moves)))) more)

-- ---- moves, one after another

-- none took place yet
pub doing_none : (d : Deed) (w : World) (held : Held) (s : State) → IsAtWorld w held s → IsDoing d w w d.moves held held s s
doing_none d w held s at = record {
  moves = [];
  split = refl;
  world_is = refl;
  within = λ entry past within. within_still entry past held within;
  stops = looked_found w held s s [] at refl;
  at = at;
  printed = refl;
}

module _ (d : Deed) (w v : World) where
  -- the host was looked at
  pub doing_looked : (left : List Move) (before now : Held) (old mid new : State) → IsDoing d w v left before now old mid → new.tells ≡ mid.tells → new.tape ≡ mid.tape
      → IsDoing d w v left before now old new
  doing_looked left before now old mid new is told tape = record {
    moves = is.moves;
    split = is.split;
    world_is = is.world_is;
    within = is.within;
    stops = subst (λ t. Only old.tape t (IsFound w (printed_of old) (made is.moves))) (sym tape) is.stops;
    at = at_same_tape v now mid new told tape is.at;
    printed = ap (λ t. t.disk.printed) tape ∙ is.printed;
  }

  module _ (left : List Move) (before now : Held) (old mid : State) (is : IsDoing d w v left before now old mid) where
    -- all that it was to do and say: these moves come first
    whole : (s : Session) → (attempts d s 0 d.moves w []).items ≡ made is.moves ++ (made left ++ Says d.reply ∷ [])
    whole s =
        attempts_all d s d.moves 0 w
        ∙ ap (λ (ms : List Move). made ms ++ Says d.reply ∷ []) is.split
        ∙ ap (λ (items : List Item). items ++ Says d.reply ∷ []) (map-append Makes is.moves left)
        ∙ append_assoc (made is.moves) (made left) (Says d.reply ∷ [])

    -- broken off between two moves, or in a call that at most looked at the host
    pub breaks_at : (s : Session) (new : State) → new.tape ≡ mid.tape → Breaks d s w old new
    breaks_at s new tape =
        subst (λ t. Only old.tape t (IsFound w (printed_of old) (attempts d s 0 d.moves w []).items)) (sym tape)
        (subst (λ (items : List Item). Only old.tape mid.tape (IsFound w (printed_of old) items)) (sym (whole s))
        (stops_here w v is.moves is.world_is old mid is.printed is.stops (made left ++ Says d.reply ∷ [])))

  module _ (m : Move) (left : List Move) (before now : Held) (old mid : State) (is : IsDoing d w v (m ∷ left) before now old mid) where
    -- a stop in these, and then in the move that comes next, whatever comes behind
    stops_then : (new : State) (behind : List Item) → Only mid.tape new.tape (IsEither v (moved m v) (printed_of mid))
        → Only old.tape new.tape (IsFound w (printed_of old) (made is.moves ++ Makes m ∷ behind))
    stops_then new behind either = stops_next w v is.moves is.world_is old mid is.printed is.stops m new behind either

    pub doing_more : (then_ : Held) (new : State) → IsMoved m v now then_ mid new → IsDoing d w (moved m v) left before then_ old new
    doing_more then_ new step = record {
      moves = is.moves ++ m ∷ [];
      split = is.split ∙ sym (append_assoc is.moves (m ∷ []) left);
      world_is = world_more w v is.moves is.world_is m;
      within = λ entry past within.
          within_more w v is.moves is.world_is m entry past then_ (step.within entry (past ++ made_by w (made is.moves)) (is.within entry past within));
      stops = subst (λ (items : List Item). Only old.tape new.tape (IsFound w (printed_of old) items)) (sym (map-append Makes is.moves (m ∷ [])))
          (stops_then new [] step.stops);
      at = step.next.at;
      printed = step.next.printed_same ∙ is.printed;
    }

    -- broken off in the next move
    pub breaks_next : (s : Session) (new : State) → Only mid.tape new.tape (IsEither v (moved m v) (printed_of mid)) → Breaks d s w old new
    breaks_next s new either =
        subst (λ (items : List Item). Only old.tape new.tape (IsFound w (printed_of old) items)) (sym (whole (m ∷ left) before now old mid is s))
        (stops_then new (made left ++ Says d.reply ∷ []) either)

    -- before it
    pub breaks_here : (s : Session) → Breaks d s w old mid
    breaks_here s = breaks_at (m ∷ left) before now old mid is s mid refl

    -- refused for room
    module _ (s : Session) (room : Room) (reply : Reply) (ends : (space : Space) → attempts d s (0 + length is.moves) (m ∷ left) v (room ∷ space) ≡ replied reply v s space)
        (may : (entry : Entry) (past : List Made) → IsWithin entry past now → (future : Space) → LicensedMoves entry past (m ∷ left) v (room ∷ future)) where
      refused_by : Does d s s w reply before now old mid
      refused_by = record {
        moves = is.moves;
        world = v;
        used = enough is.moves ++ room ∷ [];
        did = λ future.
            ap (λ (space : Space). attempts d s 0 d.moves w space) (append_assoc (enough is.moves) (room ∷ []) future)
            ∙ ap (λ (ms : List Move). attempts d s 0 ms w (enough is.moves ++ room ∷ future)) is.split
            ∙ attempts_made d s is.moves (m ∷ left) 0 w (room ∷ future)
            ∙ ap (λ (u : World). after (made is.moves) (attempts d s (0 + length is.moves) (m ∷ left) u (room ∷ future))) (sym is.world_is)
            ∙ ap (after (made is.moves)) (ends future);
        licensed = λ entry past within future.
            subst (λ (space : Space). LicensedMoves entry past d.moves w space) (sym (append_assoc (enough is.moves) (room ∷ []) future))
            (subst (λ (ms : List Move). LicensedMoves entry past ms w (enough is.moves ++ room ∷ future)) (sym is.split)
            (licensed_made entry past is.moves (m ∷ left) w (room ∷ future)
            (subst (λ (u : World). LicensedMoves entry (past ++ made_by w (made is.moves)) (m ∷ left) u (room ∷ future)) is.world_is
            (may entry (past ++ made_by w (made is.moves)) (is.within entry past within) future))));
        within = is.within;
        stops = is.stops;
        at = is.at;
        printed = is.printed;
      }

    -- what the refusal tells of the steps
    tells_none : d.counts_steps ≡ false → steps_then d.counts_steps (0 + length is.moves) v ≡ None
    tells_none silent = ap (λ (b : Bool). steps_then b (0 + length is.moves) v) silent

    tells_steps : d.counts_steps ≡ true → steps_then d.counts_steps (0 + length is.moves) v ≡ Some (length is.moves, steps_left v)
    tells_steps counts =
        let same : 0 + length is.moves ≡ length is.moves = omega arith
        in ap (λ (b : Bool). steps_then b (0 + length is.moves) v) counts ∙ ap (λ (taken : ℕ). Some (taken, steps_left v)) same

    -- no run was free for the next move
    no_run_by : (s : Session) (pages : ℕ) (steps : Option (ℕ × ℕ)) → steps_then d.counts_steps (0 + length is.moves) v ≡ steps
        → ((entry : Entry) (past : List Made) → IsWithin entry past now → LacksRun entry past m v pages) → Does d s s w (says.Refused (no.NoRun pages steps)) before now old mid
    no_run_by s pages steps tells lacks =
        refused_by s (NoRun pages) (says.Refused (no.NoRun pages steps)) (λ space. ap (λ o. replied (says.Refused (no.NoRun pages o)) v s space) tells)
        (λ entry past within future. lacks entry past within)

    pub does_no_run : (s : Session) (pages : ℕ) → d.counts_steps ≡ false → ((entry : Entry) (past : List Made) → IsWithin entry past now → LacksRun entry past m v pages)
        → Does d s s w (says.Refused (no.NoRun pages None)) before now old mid
    does_no_run s pages silent lacks = no_run_by s pages None (tells_none silent) lacks

    pub does_no_run_counted : (s : Session) (pages : ℕ) → d.counts_steps ≡ true → ((entry : Entry) (past : List Made) → IsWithin entry past now → LacksRun entry past m v pages)
        → Does d s s w (says.Refused (no.NoRun pages (Some (length is.moves, steps_left v)))) before now old mid
    does_no_run_counted s pages counts lacks = no_run_by s pages (Some (length is.moves, steps_left v)) (tells_steps counts) lacks

    -- the journal had no room for its record
    full_by : (s : Session) (steps : Option (ℕ × ℕ)) → steps_then d.counts_steps (0 + length is.moves) v ≡ steps
        → ((entry : Entry) (past : List Made) → IsWithin entry past now → LacksRecord entry past m v) → Does d s s w (says.Refused (no.JournalFull steps)) before now old mid
    full_by s steps tells lacks =
        refused_by s Full (says.Refused (no.JournalFull steps)) (λ space. ap (λ o. replied (says.Refused (no.JournalFull o)) v s space) tells)
        (λ entry past within future. lacks entry past within)

    pub does_full : (s : Session) → d.counts_steps ≡ false → ((entry : Entry) (past : List Made) → IsWithin entry past now → LacksRecord entry past m v)
        → Does d s s w (says.Refused (no.JournalFull None)) before now old mid
    does_full s silent lacks = full_by s None (tells_none silent) lacks

    pub does_full_counted : (s : Session) → d.counts_steps ≡ true → ((entry : Entry) (past : List Made) → IsWithin entry past now → LacksRecord entry past m v)
        → Does d s s w (says.Refused (no.JournalFull (Some (length is.moves, steps_left v)))) before now old mid
    does_full_counted s counts lacks = full_by s (Some (length is.moves, steps_left v)) (tells_steps counts) lacks

  -- all took place
  pub does_all : (s : Session) (before now : Held) (old new : State) → IsDoing d w v [] before now old new → Does d s d.session w d.reply before now old new
  does_all s before now old new is = record {
    moves = is.moves;
    world = v;
    used = enough is.moves;
    did = λ future.
        ap (λ (ms : List Move). attempts d s 0 ms w (enough is.moves ++ future)) is.split
        ∙ attempts_made d s is.moves [] 0 w future
        ∙ ap (λ (u : World). after (made is.moves) (replied d.reply u d.session future)) (sym is.world_is);
    licensed = λ entry past within future.
        subst (λ (ms : List Move). LicensedMoves entry past ms w (enough is.moves ++ future)) (sym is.split)
        (licensed_made entry past is.moves [] w future tt);
    within = is.within;
    stops = is.stops;
    at = is.at;
    printed = is.printed;
  }
