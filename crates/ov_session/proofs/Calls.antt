-- A call that changes the store, as a command that is done, refused, or broken off.
use Rattle.std.proofs.Common.{◌≡◌, ℕ, List, Some, None, refl, sym, subst}
use Rattle.std.specs.Prelude.{IfOk, Option, Ok, Err, Result}
use Rattle.ov_host.specs.Host.{State}
use Rattle.ov_host.specs.Stops.{Only}
use Rattle.ov_core.specs.AtWorld.{IsAtNext, IsAtWorld, IsEither}
use Rattle.ov_core.specs.Held.{Held}
use Rattle.law_runs.specs.Serving.{Breaks, Does}
use Rattle.law_runs.specs.Stops.{printed_of}
use Rattle.law_runs.proofs.Doing.{breaks_move, breaks_where, does_full, does_move, does_no_run, does_told}
use Rattle.ov_fetch.specs.Extents.{Looked}
use Rattle.ov_model.specs.Act.{Deed, Session, does, refuses}
use Rattle.ov_model.specs.Moves.{Move, moved}
use Rattle.ov_model.specs.World.{World}
use Rattle.ov_model.specs.declared.refusal.Refusal.{Refusal}
use Rattle.ov_model.specs.declared.reply.Reply.{Reply}
use Rattle.ov_model.specs.declared.reply.Reply.TheVariants as says
use Rattle.ov_open.specs.Opening.{IsWorld}
use Rattle.law_room.specs.Room.{Entry, IsWithin, Made}
use Rattle.ov_session.specs.Commands.{Acts}
use Rattle.ov_session.specs.Errors.{reply_of}
use Rattle.ov_session.specs.declared.errors.EndErr.{EndErr}
use Rattle.ov_store.specs.Kept.{Kept, Stays}
use Rattle.ov_store.specs.Worlds.{IsLack, IsRefusedAs, and_made}
use Rattle.ov_store.specs.declared.errors.StoreErr.{StoreErr}
use Rattle.ov_store.specs.declared.errors.StoreErr.TheVariants as why

some_is : (a b : Reply) → Some a ≡ Some b → b ≡ a
some_is a b e = cc

module _ (w : World) (s : Session) (d : Deed) (m : Move) (reply : Reply) (name : List ℕ) (off : Option Refusal)
    (refused_is : (refusal : Refusal) → off ≡ Some refusal → d ≡ refuses s refusal) (done_is : off ≡ None → d ≡ does s m reply)
    (before : Held) (old new : State) (at : IsAtWorld w before old) where
  pub change_done : (now : Held) → off ≡ None → Only old.tape new.tape (IsEither w (moved m w) (printed_of old)) → IsAtNext (moved m w) now old new
      → ((entry : Entry) (past : List Made) → IsWithin entry past before → IsWithin entry (and_made past m w) now) → Does d s s w reply before now old new
  change_done now none stops next within = does_move d s s w m reply before now old new (done_is none) stops next within

  -- a refusal, by what the World refuses or for want of room; the host was at most looked at
  pub change_refused_still : (e : StoreErr) (r : Reply) → IsRefusedAs name off e → ((entry : Entry) (past : List Made) → IsWithin entry past before → IsLack entry past m w e)
      → reply_of name e ≡ Some r → new.tells ≡ old.tells → new.tape ≡ old.tape → Does d s s w r before before old new
  change_refused_still = by
    where
      told_by : (refusal : Refusal) (r : Reply) → off ≡ Some refusal → Some (says.Refused refusal) ≡ Some r → new.tells ≡ old.tells → new.tape ≡ old.tape → Does d s s w r before before old new
      told_by refusal r is said told tape =
          subst (λ (x : Reply). Does d s s w x before before old new) (sym (some_is (says.Refused refusal) r said))
          (does_told d s s w (says.Refused refusal) before old new (refused_is refusal is) at told tape)

      by : (e : StoreErr) (r : Reply) → IsRefusedAs name off e → ((entry : Entry) (past : List Made) → IsWithin entry past before → IsLack entry past m w e)
          → reply_of name e ≡ Some r → new.tells ≡ old.tells → new.tape ≡ old.tape → Does d s s w r before before old new
      by why.Host r is lack said told tape = absurd cc
      by why.Memory r is lack said told tape = absurd cc
      by (why.Damaged area place) r is lack said told tape = absurd is
      by (why.Full pages) r is lack said told tape =
          subst (λ (x : Reply). Does d s s w x before before old new) (sym (some_is _ r said))
          (does_no_run d s s w m reply pages before old new (done_is is) at told tape lack)
      by why.JournalFull r is lack said told tape =
          subst (λ (x : Reply). Does d s s w x before before old new) (sym (some_is _ r said))
          (does_full d s s w m reply before old new (done_is is) at told tape lack)
      by why.NoCvd r is lack said told tape = told_by _ r is said told tape
      by why.CvdExists r is lack said told tape = told_by _ r is said told tape
      by (why.NoVersion vid) r is lack said told tape = told_by _ r is said told tape
      by (why.RepeatedVersion vid) r is lack said told tape = told_by _ r is said told tape
      by (why.DuplicateKey row) r is lack said told tape = told_by _ r is said told tape
      by why.TooManyVersions r is lack said told tape = told_by _ r is said told tape
      by why.TooManyRecords r is lack said told tape = told_by _ r is said told tape
      by why.TooManyRows r is lack said told tape = told_by _ r is said told tape
      by why.TooManyCvds r is lack said told tape = told_by _ r is said told tape
      by why.NoNumbers r is lack said told tape = told_by _ r is said told tape
      by (why.FormatOne row) r is lack said told tape = told_by _ r is said told tape

  -- it was broken off, in a call that the World doesn't refuse, or before one that it does
  pub change_broken : Only old.tape new.tape (IsEither w (moved m w) (printed_of old))
      → ((refusal : Refusal) → off ≡ Some refusal → Only old.tape new.tape (IsWorld w (printed_of old))) → Breaks d s w old new
  change_broken stops still = by off refl
    where
      by : (o : Option Refusal) → off ≡ o → Breaks d s w old new
      by None none = breaks_move d s s w m reply old new (done_is none) stops
      by (Some refusal) is = breaks_where d s w old new (IsWorld w (printed_of old)) (λ c on. on.stands) (λ c on. on.printed_is) (still refusal is)

-- ---- a refusal of the store, or the end of the run

-- after a refusal the store is as it was, and the host was at most looked at
pub stays_still : (name : List ℕ) (e : StoreErr) (r : Reply) (a b : Kept) (s t : State) → reply_of name e ≡ Some r → Stays e a b s t → (b ≡ a) × Looked s t
stays_still name why.Host r a b s t said is = absurd cc
stays_still name why.Memory r a b s t said is = is
stays_still name (why.Damaged area at) r a b s t said is = is
stays_still name (why.Full pages) r a b s t said is = is
stays_still name why.JournalFull r a b s t said is = is
stays_still name why.NoCvd r a b s t said is = is
stays_still name why.CvdExists r a b s t said is = is
stays_still name (why.NoVersion vid) r a b s t said is = is
stays_still name (why.RepeatedVersion vid) r a b s t said is = is
stays_still name (why.DuplicateKey row) r a b s t said is = is
stays_still name why.TooManyVersions r a b s t said is = is
stays_still name why.TooManyRecords r a b s t said is = is
stays_still name why.TooManyRows r a b s t said is = is
stays_still name why.TooManyCvds r a b s t said is = is
stays_still name why.NoNumbers r a b s t said is = is
stays_still name (why.FormatOne row) r a b s t said is = is

pub acts_by : (d : Deed) (s t : Session) (w : World) (result : Result Reply EndErr) (name : List ℕ) (e : StoreErr) (before now : Held) (old new : State)
    → IfOk result (λ reply. reply_of name e ≡ Some reply) → ((r : Reply) → reply_of name e ≡ Some r → Does d s t w r before now old new)
    → Breaks d s w old new → Acts d s t w result before now old new
acts_by d s t w (Ok reply) name e before now old new said does breaks = does reply said
acts_by d s t w (Err why) name e before now old new said does breaks = breaks
