-- What a command keeps to that is served, by what the call that serves it says.
use Rattle.std.proofs.Common.{◌≡◌, ℕ, List, refl, sym, subst, arith}
use Rattle.std.specs.Prelude.{IfErr, IfOk, IsErrOf, Ok, Err, Result}
use Rattle.ov_core.specs.AtWorld.{IsAtWorld}
use Rattle.ov_host.specs.Host.{State}
use Rattle.ov_host.specs.Stage.{Staged}
use Rattle.law_runs.proofs.Doing.{breaks_looked, does_told}
use Rattle.law_runs.specs.Serving.{files_of, session_of}
use Rattle.ov_model.specs.Act.{Deed, Session, tells}
use Rattle.ov_model.specs.Deed.{permitted}
use Rattle.ov_model.specs.World.{World}
use Rattle.ov_model.specs.declared.command.Command.{Command}
use Rattle.ov_model.specs.declared.reply.Reply.{Reply}
use Rattle.ov_session.proofs.Bounds.{unread_command}
use Rattle.ov_session.proofs.Replying.{seen_missed}
use Rattle.ov_session.proofs.Standing.{at_still, idle_same, idle_stored, on_any, result_unmoved}
use Rattle.ov_session.specs.Commands.{Acts, Attended, IfNoFile, IsDamageOf, IsNoDamage, MeetsDamage}
use Rattle.ov_session.specs.Registering.{IsRegistered}
use Rattle.ov_session.specs.Serving.{IsServedAlone}
use Rattle.ov_session.specs.Standing.{IsIdle, IsIdleBy}
use Rattle.ov_session.specs.declared.errors.EndErr.{EndErr}
use Rattle.ov_session.specs.declared.errors.EndErr.TheVariants as ending
use Rattle.ov_store.specs.Kept.{Kept, MayCall}

-- the stage wasn't called
pub same_stage : (s : Staged) → Attended s s
same_stage s = record { told = refl; faults = omega arith; misses = omega arith }

-- no damage is damage of any kind
pub spared_damage : {A : Type 0} → (P : ℕ → Type 0) (r : Result A EndErr) → IfErr r IsNoDamage → IfErr r (IsDamageOf P)
spared_damage P (Ok a) fine = tt
spared_damage P (Err ending.Host) fine = tt
spared_damage P (Err ending.Stage) fine = tt
spared_damage P (Err ending.Memory) fine = tt
spared_damage P (Err (ending.Damaged area at)) fine = absurd fine

-- a command on users and staged tables that leaves the stage alone
pub registered_served : (user next : List ℕ) (command : Command) (r : Result Reply EndErr) (before now : Kept) (old new : State)
    → ((stage : Staged) → IfErr r (λ why. IsIdle why before now stage stage old new) → IfErr r (λ why. IsIdleBy command why before now stage stage old new))
    → IsRegistered user next command r before now old new → IsServedAlone user next command r before now old new
registered_served user next command r before now old new idles is = λ stage. record {
  goes = is.goes;
  attended = same_stage stage;
  still = is.still;
  fetched = is.fetched;
  unread = is.unread;
  cause = is.cause;
  stage_cause = λ end. absurd (is.host_alone end);
  damaged = is.damaged stage;
  undamaged = is.undamaged;
  whole = is.whole stage;
  missed = seen_missed _ r is.seen;
  idle = idles stage (idle_stored before now stage stage old new r is.host_alone is.idle refl);
  begins_none = λ quiet none. is.begins_none none;
  usable = is.usable;
  by_journal = is.by_journal;
  at = is.at;
  acts = λ w told at. is.acts w (files_of stage.files) at;
}

-- ---- a command that is answered by the store's numbers alone, unless memory lacks

module _ (user : List ℕ) (command : Command) (k : Kept) (s : State) where
  err_is : (a b : EndErr) → (let one : Result Reply EndErr = Err a in one) ≡ Err b → a ≡ b
  err_is a b e = cc

  no_end : (e : EndErr) (r : Result Reply EndErr) → (ending.Memory ≡ e → ⊥) → IfErr r (λ x. x ≡ ending.Memory) → IsErrOf r e → ⊥
  no_end e (Ok reply) other is end = cc
  no_end e (Err x) other is end = other (subst (λ (y : EndErr). y ≡ e) is (err_is x e end))

  of_memory : (P : EndErr → Type 0) (r : Result Reply EndErr) → P ending.Memory → IfErr r (λ e. e ≡ ending.Memory) → IfErr r P
  of_memory P (Ok reply) p is = tt
  of_memory P (Err e) p is = subst P (sym is) p

  told_acts : (d : Deed) (w : World) (t : Session) → IsAtWorld w k.held s → (r : Result Reply EndErr) → IfOk r (λ reply. d ≡ tells t reply)
      → Acts d t t w r k.held k.held s s
  told_acts d w t at (Ok reply) told = does_told d t t w reply k.held s s told at refl refl
  told_acts d w t at (Err e) told = breaks_looked d t w k.held s s at refl

  pub quiet_served : (r : Result Reply EndErr) → MayCall k s → ((stage : Staged) (page : ℕ) → MeetsDamage user command stage k.held s page → ⊥)
      → ((w : World) (t : Session) → IsAtWorld w k.held s → IfOk r (λ reply. permitted w t command ≡ tells t reply)) → IfOk r (IfNoFile ⊥)
      → IfErr r (λ e. e ≡ ending.Memory)
      → ((stage : Staged) → IfErr r (λ why. IsIdle why k k stage stage s s) → IfErr r (λ why. IsIdleBy command why k k stage stage s s))
      → IsServedAlone user user command r k k s s
  quiet_served r may none told seen memory idles = λ stage. record {
    goes = record { told = refl; kept = refl; faults = omega arith; fetched = omega arith };
    attended = same_stage stage;
    still = λ reads. refl;
    fetched = unread_command user command k.held (IsErrOf r ending.Host) s;
    unread = λ is. refl;
    cause = λ host. absurd (no_end ending.Host r (λ e. cc) memory host);
    stage_cause = λ end. absurd (no_end ending.Stage r (λ e. cc) memory end);
    damaged = of_memory (IsDamageOf _) r tt memory;
    undamaged = λ w at. of_memory IsNoDamage r tt memory;
    whole = λ page tells_. on_any _ r (none stage page);
    missed = seen_missed _ r seen;
    idle = idles stage (result_unmoved k k stage stage s s r (idle_same k s) refl);
    begins_none = λ quiet is. on_any _ r is;
    usable = on_any _ r may;
    by_journal = λ by fine. by;
    at = λ w at. on_any _ r (at_still w k.held s at);
    acts = λ w told_ at. told_acts (permitted w (session_of stage.files user) command) w (session_of stage.files user) at r (told w (session_of stage.files user) at);
  }
