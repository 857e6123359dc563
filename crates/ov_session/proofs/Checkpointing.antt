-- A checkpoint, out of the store's answers.
use Rattle.std.proofs.Common.{◌≡◌, ◌∙◌, ℕ, List, [], length, Some, None, true, refl, sym, ap, subst}
use Rattle.std.specs.Prelude.{IfErr, IfOk, IsErrOf, OnOk, Ok, Err, Result}
use Rattle.ov_host.specs.Host.{Rose, State}
use Rattle.ov_host.specs.Stops.{Only}
use Rattle.ov_core.specs.AtWorld.{IsAtNext, IsAtWorld, IsEither}
use Rattle.ov_core.specs.Held.{Held}
use Rattle.ov_core.specs.Rooms.{IsTaken}
use Rattle.law_room.specs.Room.{Entry, IsWithin, Made}
use Rattle.law_runs.specs.Serving.{Does}
use Rattle.law_runs.specs.Stops.{printed_of}
use Rattle.law_steps.specs.Turns.{running}
use Rattle.ov_model.specs.Act.{Session, checkpoint_deed}
use Rattle.ov_model.specs.Moves.{Checkpoint, moved}
use Rattle.ov_model.specs.World.{World}
use Rattle.ov_model.specs.declared.reply.Reply.{Reply}
use Rattle.ov_model.specs.declared.reply.Reply.TheVariants as says
use Rattle.ov_session.proofs.Begins.{change_off}
use Rattle.ov_session.proofs.Calls.{change_done, stays_still}
use Rattle.ov_session.proofs.Standing.{the_end}
use Rattle.ov_session.proofs.Taking.{may_call}
use Rattle.ov_session.specs.Commands.{Acts, IsNoDamage}
use Rattle.ov_session.specs.Errors.{end_of, is_nameless, reply_of}
use Rattle.ov_session.specs.declared.errors.EndErr.{EndErr}
use Rattle.ov_session.specs.declared.errors.EndErr.TheVariants as ending
use Rattle.ov_store.specs.Checkpoints.{IsUntaken}
use Rattle.ov_store.specs.Kept.{Kept, MayCall, Stays}
use Rattle.ov_store.specs.Worlds.{IsLack, IsRefusedAs, and_made}
use Rattle.ov_store.specs.declared.errors.StoreErr.{StoreErr}
use Rattle.ov_store.specs.declared.errors.StoreErr.TheVariants as why

-- ---- why it isn't taken

abbrev error : EndErr → Result Reply EndErr
error off = Err off

module _ (held : Held) (old new : State) where
  pub untaken_nameless : (e : StoreErr) → IsUntaken held old new e → is_nameless e ≡ true
  untaken_nameless why.Host is = refl
  untaken_nameless why.Memory is = refl
  untaken_nameless why.JournalFull is = refl
  untaken_nameless e is = absurd is

  -- no World refuses it but for room
  untaken_as : (e : StoreErr) → IsUntaken held old new e → IsRefusedAs [] None e
  untaken_as why.Host is = tt
  untaken_as why.Memory is = tt
  untaken_as why.JournalFull is = refl
  untaken_as e is = absurd is

  end_cause : (e : StoreErr) → IsUntaken held old new e → end_of e ≡ Some ending.Host → Rose old.faults new.faults
  end_cause why.Host is ends = is
  end_cause why.Memory is ends = absurd cc
  end_cause why.JournalFull is ends = absurd cc
  end_cause e is ends = absurd is

  end_alone : (e : StoreErr) → IsUntaken held old new e → end_of e ≡ Some ending.Stage → ⊥
  end_alone why.Host is ends = cc
  end_alone why.Memory is ends = cc
  end_alone why.JournalFull is ends = cc
  end_alone e is ends = is

  end_undamaged : (e : StoreErr) (off : EndErr) → IsUntaken held old new e → end_of e ≡ Some off → IsNoDamage off
  end_undamaged why.Host off is ends = subst IsNoDamage (the_end ending.Host off ends) tt
  end_undamaged why.Memory off is ends = subst IsNoDamage (the_end ending.Memory off ends) tt
  end_undamaged why.JournalFull off is ends = absurd cc
  end_undamaged e off is ends = absurd is

  module _ (e : StoreErr) (is : IsUntaken held old new e) where
    ends_by : (off end : EndErr) → end_of e ≡ Some off → off ≡ end → end_of e ≡ Some end
    ends_by off end ends same = ends ∙ ap Some same

    the_error : (off end : EndErr) → error off ≡ error end → off ≡ end
    the_error off end same = cc

    pub untaken_cause : (result : Result Reply EndErr) → IfErr result (λ off. end_of e ≡ Some off) → IsErrOf result ending.Host → Rose old.faults new.faults
    untaken_cause (Ok r) ends host = absurd cc
    untaken_cause (Err off) ends host = end_cause e is (ends_by off ending.Host ends (the_error off ending.Host host))

    pub untaken_alone : (result : Result Reply EndErr) → IfErr result (λ off. end_of e ≡ Some off) → IsErrOf result ending.Stage → ⊥
    untaken_alone (Ok r) ends stage = cc
    untaken_alone (Err off) ends stage = end_alone e is (ends_by off ending.Stage ends (the_error off ending.Stage stage))

    pub untaken_undamaged : (result : Result Reply EndErr) → IfErr result (λ off. end_of e ≡ Some off) → IfErr result IsNoDamage
    untaken_undamaged (Ok r) ends = tt
    untaken_undamaged (Err off) ends = end_undamaged e off is ends

-- ---- the store stays usable, and no plan begins

pub untaken_usable : (e : StoreErr) (result : Result Reply EndErr) (before after : Kept) (old new : State) → IfOk result (λ r. reply_of [] e ≡ Some r)
    → Stays e before after old new → MayCall before old → OnOk result (MayCall after new)
untaken_usable e (Err off) before after old new said stays call = tt
untaken_usable e (Ok r) before after old new said stays call = may_call before after old new call (stays_still [] e r before after old new said stays)

pub taken_none : (old new : Held) → IsTaken old new → running old.numbers ≡ None → running new.numbers ≡ None
taken_none old new taken none = ap running taken.numbers ∙ none

-- ---- at a World

module _ (w : World) (s : Session) (before after : Kept) (old new : State) (at : IsAtWorld w before.held old)
    (stops : Only old.tape new.tape (IsEither w (moved Checkpoint w) (printed_of old))) where
  pub taken_does : (datasets : ℕ) → datasets ≡ length w.sets → IsAtNext (moved Checkpoint w) after.held old new
      → ((entry : Entry) (past : List Made) → IsWithin entry past before.held → IsWithin entry (and_made past Checkpoint w) after.held)
      → Does (checkpoint_deed w s) s s w (says.Checkpoint datasets) before.held after.held old new
  taken_does datasets is next within =
      subst (λ (n : ℕ). Does (checkpoint_deed w s) s s w (says.Checkpoint n) before.held after.held old new) (sym is)
      (change_done w s (checkpoint_deed w s) Checkpoint (says.Checkpoint (length w.sets)) [] None (λ refusal e. absurd cc) (λ none. refl)
      before.held old new at after.held refl stops next within)

  pub untaken_acts : (result : Result Reply EndErr) (e : StoreErr) → IfOk result (λ r. reply_of [] e ≡ Some r) → IsUntaken before.held old new e
      → ((entry : Entry) (past : List Made) → IsWithin entry past before.held → IsLack entry past Checkpoint w e) → Stays e before after old new
      → Acts (checkpoint_deed w s) s s w result before.held after.held old new
  untaken_acts result e said untaken lack stays =
      change_off w s (checkpoint_deed w s) Checkpoint (says.Checkpoint (length w.sets)) [] None (λ refusal is. absurd cc) (λ none. refl)
      before after old new at result e said (untaken_as before.held old new e untaken) lack stays stops (λ refusal is. absurd cc)
