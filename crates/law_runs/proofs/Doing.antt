-- How a store's call does what a command means, or breaks off in it.
use Rattle.std.proofs.Common.{◌≡◌, ◌⊎◌, inl, inr, ℕ, List, [], ◌∷◌, ◌++◌, None, refl, sym, ap, subst, append-nil}
use Rattle.ov_host.specs.Disk.{Image}
use Rattle.ov_host.specs.Host.{State}
use Rattle.ov_host.specs.Stops.{Only}
use Rattle.ov_host.proofs.Stops.{only_wider}
use Rattle.ov_model.specs.Act.{Deed, Session, does, tells}
use Rattle.ov_model.specs.Course.{Enough, Full, Item, Makes, NoRun, Says, attempts}
use Rattle.ov_model.specs.Moves.{Move, moved}
use Rattle.ov_model.specs.World.{World}
use Rattle.ov_model.specs.declared.refusal.Refusal.TheVariants as no
use Rattle.ov_model.specs.declared.reply.Reply.{Reply}
use Rattle.ov_model.specs.declared.reply.Reply.TheVariants as says
use Rattle.law_image.specs.Images.{StandsAs}
use Rattle.ov_core.specs.AtWorld.{IsAtNext, IsAtWorld, IsEither}
use Rattle.ov_core.specs.Held.{Held}
use Rattle.law_room.specs.Room.{Entry, IsWithin, LacksRecord, LacksRun, Made}
use Rattle.law_runs.specs.Serving.{Breaks, Does}
use Rattle.law_runs.specs.Stops.{IsFound, printed_of}
use Rattle.law_runs.proofs.Found.{at_same_tape, found_moved, found_start, looked_found}

-- no move more
pub within_still : (entry : Entry) (past : List Made) (held : Held) → IsWithin entry past held → IsWithin entry (past ++ []) held
within_still entry past held within = subst (λ (made : List Made). IsWithin entry made held) (sym (append-nil past)) within

-- a World or the one after a move
pub either_found : (w : World) (m : Move) (printed : List ℕ) (items : List Item) (c : Image) → IsEither w (moved m w) printed c → IsFound w printed (Makes m ∷ items) c
either_found w m printed items c either = by either.stands
  where
    by : StandsAs w c ⊎ StandsAs (moved m w) c → IsFound w printed (Makes m ∷ items) c
    by (inl old) = found_start w printed (Makes m ∷ items) c old either.printed_is
    by (inr new) = found_moved w m printed items c new either.printed_is

-- ---- it was done

-- a reply is all
pub does_told : (d : Deed) (s t : Session) (w : World) (reply : Reply) (held : Held) (old new : State) → d ≡ tells t reply → IsAtWorld w held old
    → new.tells ≡ old.tells → new.tape ≡ old.tape → Does d s t w reply held held old new
does_told d s t w reply held old new is at told tape =
    subst (λ (e : Deed). Does e s t w reply held held old new) (sym is)
    (record {
      moves = [];
      world = w;
      used = [];
      did = λ future. refl;
      licensed = λ entry past within future. tt;
      within = λ entry past within. within_still entry past held within;
      stops = looked_found w held old new [] at tape;
      at = at_same_tape w held old new told tape at;
      printed = ap (λ u. u.disk.printed) tape;
    })

-- its move took place
pub does_move : (d : Deed) (s t : Session) (w : World) (m : Move) (reply : Reply) (before now : Held) (old new : State) → d ≡ does t m reply
    → Only old.tape new.tape (IsEither w (moved m w) (printed_of old)) → IsAtNext (moved m w) now old new
    → ((entry : Entry) (past : List Made) → IsWithin entry past before → IsWithin entry (past ++ record { move = m; world = w } ∷ []) now)
    → Does d s t w reply before now old new
does_move d s t w m reply before now old new is stops next within =
    subst (λ (e : Deed). Does e s t w reply before now old new) (sym is)
    (record {
      moves = m ∷ [];
      world = moved m w;
      used = Enough ∷ [];
      did = λ future. refl;
      licensed = λ entry past within future. tt;
      within = within;
      stops = only_wider old.tape new.tape (IsEither w (moved m w) (printed_of old)) (IsFound w (printed_of old) (Makes m ∷ []))
          (λ c either. either_found w m (printed_of old) [] c either) stops;
      at = next.at;
      printed = next.printed_same;
    })

-- no run was free for it
pub does_no_run : (d : Deed) (s t : Session) (w : World) (m : Move) (reply : Reply) (pages : ℕ) (held : Held) (old new : State) → d ≡ does t m reply → IsAtWorld w held old
    → new.tells ≡ old.tells → new.tape ≡ old.tape → ((entry : Entry) (past : List Made) → IsWithin entry past held → LacksRun entry past m w pages)
    → Does d s s w (says.Refused (no.NoRun pages None)) held held old new
does_no_run d s t w m reply pages held old new is at told tape lacks =
    subst (λ (e : Deed). Does e s s w (says.Refused (no.NoRun pages None)) held held old new) (sym is)
    (record {
      moves = [];
      world = w;
      used = NoRun pages ∷ [];
      did = λ future. refl;
      licensed = λ entry past within future. lacks entry past within;
      within = λ entry past within. within_still entry past held within;
      stops = looked_found w held old new [] at tape;
      at = at_same_tape w held old new told tape at;
      printed = ap (λ u. u.disk.printed) tape;
    })

-- the journal had no room for its record
pub does_full : (d : Deed) (s t : Session) (w : World) (m : Move) (reply : Reply) (held : Held) (old new : State) → d ≡ does t m reply → IsAtWorld w held old
    → new.tells ≡ old.tells → new.tape ≡ old.tape → ((entry : Entry) (past : List Made) → IsWithin entry past held → LacksRecord entry past m w)
    → Does d s s w (says.Refused (no.JournalFull None)) held held old new
does_full d s t w m reply held old new is at told tape lacks =
    subst (λ (e : Deed). Does e s s w (says.Refused (no.JournalFull None)) held held old new) (sym is)
    (record {
      moves = [];
      world = w;
      used = Full ∷ [];
      did = λ future. refl;
      licensed = λ entry past within future. lacks entry past within;
      within = λ entry past within. within_still entry past held within;
      stops = looked_found w held old new [] at tape;
      at = at_same_tape w held old new told tape at;
      printed = ap (λ u. u.disk.printed) tape;
    })

-- ---- it was broken off

-- a stop leaves the World as it was, whatever was to come
pub breaks_where : (d : Deed) (s : Session) (w : World) (old new : State) (P : Image → Type 0) → ((c : Image) → P c → StandsAs w c) → ((c : Image) → P c → c.printed ≡ printed_of old)
    → Only old.tape new.tape P → Breaks d s w old new
breaks_where d s w old new P stands printed stops =
    only_wider old.tape new.tape P (IsFound w (printed_of old) (attempts d s 0 d.moves w []).items)
    (λ c is. found_start w (printed_of old) (attempts d s 0 d.moves w []).items c (stands c is) (printed c is)) stops

-- the host was at most looked at
pub breaks_looked : (d : Deed) (s : Session) (w : World) (held : Held) (old new : State) → IsAtWorld w held old → new.tape ≡ old.tape → Breaks d s w old new
breaks_looked d s w held old new at tape = looked_found w held old new (attempts d s 0 d.moves w []).items at tape

-- its move took place or not
pub breaks_move : (d : Deed) (s t : Session) (w : World) (m : Move) (reply : Reply) (old new : State) → d ≡ does t m reply
    → Only old.tape new.tape (IsEither w (moved m w) (printed_of old)) → Breaks d s w old new
breaks_move d s t w m reply old new is stops =
    subst (λ (e : Deed). Breaks e s w old new) (sym is)
    (only_wider old.tape new.tape (IsEither w (moved m w) (printed_of old)) (IsFound w (printed_of old) (Makes m ∷ Says reply ∷ []))
    (λ c either. either_found w m (printed_of old) (Says reply ∷ []) c either) stops)
