-- One migration step, by what the store answered; and one after another.
use Rattle.std.proofs.Common.{◌≡◌, ◌∙◌, inl, inr, ℕ, zero, suc, Bool, true, false, List, Some, None, refl, sym, ap, subst, arith}
use Rattle.std.specs.Prelude.{◌≤◌, ◌<◌, ◌+◌, ◌-◌, length, not, IfErr, IfOk, IsErr, IsErrOf, MatchResult, OnOk, Ok, Err, Option, Result}
use Rattle.std.specs.Result.{IsErrAnd}
use Rattle.ov_host.specs.Host.{Rose, State}
use Rattle.ov_host.specs.Stops.{Only}
use Rattle.ov_host.specs.Tape.{Tape}
use Rattle.ov_core.specs.AtWorld.{IsAtNext, IsAtWorld, IsEither}
use Rattle.ov_core.specs.Held.{Held, IsByJournal}
use Rattle.ov_fetch.specs.declared.errors.FetchErr.TheVariants as fetch
use Rattle.ov_fetch.specs.Extents.{Looked, page_bytes}
use Rattle.law_room.specs.Room.{Entry, IsWithin, Made}
use Rattle.law_runs.specs.Stepping.{IsStepped, IsStepping}
use Rattle.law_runs.proofs.Stepping.{stepped_broken, stepped_full, stepped_idle, stepped_no_run, stepped_over, stepping_looked, stepping_more, stepping_none}
use Rattle.law_runs.specs.Stops.{printed_of}
use Rattle.law_steps.specs.Turns.{running}
use Rattle.ov_migrate.specs.Steps.{RefusesStep}
use Rattle.ov_model.specs.Moves.{BeginPlan, Checkpoint, Commit, Copy, Drop, Flip, Init, Move, moved}
use Rattle.ov_model.specs.Steps.{next_step}
use Rattle.ov_model.specs.World.{World}
use Rattle.ov_session.proofs.Idling.{at_idle}
use Rattle.ov_session.proofs.Numbering.{journal_looked}
use Rattle.ov_session.specs.Commands.{IsDamageOf, IsNoDamage}
use Rattle.ov_session.specs.Standing.{IsAtSilently}
use Rattle.ov_session.specs.Stepping.{IsBrokenOff, IsCutOff, IsNotTaken, IsOver, IsStep, IsStepDamaged, IsSteppedBy, IsTaken, LacksRoom, TakesNoStep, by_step}
use Rattle.ov_session.specs.declared.errors.EndErr.{EndErr}
use Rattle.ov_session.specs.declared.errors.EndErr.TheVariants as ending
use Rattle.ov_session.specs.declared.stepping.Lack.{Lack}
use Rattle.ov_session.specs.declared.stepping.Lack.TheVariants as lack
use Rattle.ov_session.specs.declared.stepping.Ran.{Ran}
use Rattle.ov_session.specs.declared.stepping.Turn.{Turn}
use Rattle.ov_session.specs.declared.stepping.Turn.TheVariants as turn
use Rattle.ov_store.specs.Kept.{Kept, MayCall}
use Rattle.ov_store.specs.Stepping.{IsAnswer, IsStepLack, IsStepSpared, IsUnstepped, flip_answer, runs_in}
use Rattle.ov_store.specs.Worlds.{and_made}
use Rattle.ov_store.specs.declared.step_errors.StepErr.{StepErr}
use Rattle.ov_store.specs.declared.step_errors.StepErr.TheVariants as why
use Rattle.ov_store.specs.declared.stepping.Stepped.{Stepped}
use Rattle.ov_store.specs.declared.stepping.Stepped.TheVariants as stepped

abbrev Answer : Type 0
Answer = Result Stepped StepErr

abbrev nothing : Answer
nothing = Ok stepped.Nothing

-- after any error but a fault of the host
abbrev Stays : StepErr → Kept → Kept → State → State → Type 0
Stays off before now old new = (off ≡ why.Host → ⊥) → (now ≡ before) × Looked old new

module _ (before now : Kept) (old new : State) where
  pub step_cause : (r : Answer) → IfErr r (IsUnstepped before.held old new) → IsErrOf (by_step r) ending.Host → Rose old.faults new.faults
  step_cause (Ok stepped.Nothing) off is = absurd cc
  step_cause (Ok stepped.Copied) off is = absurd cc
  step_cause (Ok stepped.Flipped) off is = absurd cc
  step_cause (Ok stepped.Finished) off is = absurd cc
  step_cause (Err (why.Full pages)) off is = absurd cc
  step_cause (Err why.JournalFull) off is = absurd cc
  step_cause (Err why.Host) off is = off
  step_cause (Err why.Memory) off is = absurd cc
  step_cause (Err (why.Damaged area at)) off is = absurd cc

  -- what was met at the end is what the step read
  damaged_then : (page : ℕ) → (old.tells ≡ true → RefusesStep (fetch.Damaged page) (page_bytes old) before.held.numbers) → (now ≡ before) × Looked old new
      → IsStepDamaged 1 now.held new page
  damaged_then page refuses still = record {
    asked = omega arith;
    refuses = λ tells.
        let told : old.tells ≡ true = sym still.1.told ∙ tells
        in subst (λ (k : Kept). RefusesStep (fetch.Damaged page) (page_bytes new) k.held.numbers) (sym still.0)
        (subst (λ (t : Tape). RefusesStep (fetch.Damaged page) t.disk.pages.bytes before.held.numbers) (sym (still.1.tape told)) (refuses told));
  }

  pub step_damaged : (r : Answer) → IfErr r (IsUnstepped before.held old new) → IfErr r (λ off. Stays off before now old new)
      → IfErr (by_step r) (IsDamageOf (IsStepDamaged 1 now.held new))
  step_damaged (Ok stepped.Nothing) off stays = tt
  step_damaged (Ok stepped.Copied) off stays = tt
  step_damaged (Ok stepped.Flipped) off stays = tt
  step_damaged (Ok stepped.Finished) off stays = tt
  step_damaged (Err (why.Full pages)) off stays = tt
  step_damaged (Err why.JournalFull) off stays = tt
  step_damaged (Err why.Host) off stays = tt
  step_damaged (Err why.Memory) off stays = tt
  step_damaged (Err (why.Damaged area at)) off stays = (off.0, damaged_then at off.1 (stays (λ is. cc)))

  pub may_call : MayCall before old → (now ≡ before) × Looked old new → MayCall now new
  may_call call still =
      subst (λ (k : Kept). MayCall k new) (sym still.0)
      (record {
        usable = call.usable;
        goes_on = λ tells.
            let told : old.tells ≡ true = sym still.1.told ∙ tells
            in subst (λ (t : Tape). before.held.journal.end < length t.disk.journal.bytes) (sym (still.1.tape told)) (call.goes_on told);
      })

  pub step_usable : (r : Answer) → OnOk r (MayCall now new) → IfErr r (λ off. Stays off before now old new) → MayCall before old → OnOk (by_step r) (MayCall now new)
  step_usable (Ok stepped.Nothing) on stays call = on
  step_usable (Ok stepped.Copied) on stays call = on
  step_usable (Ok stepped.Flipped) on stays call = on
  step_usable (Ok stepped.Finished) on stays call = on
  step_usable (Err (why.Full pages)) on stays call = may_call call (stays (λ is. cc))
  step_usable (Err why.JournalFull) on stays call = may_call call (stays (λ is. cc))
  step_usable (Err why.Host) on stays call = tt
  step_usable (Err why.Memory) on stays call = tt
  step_usable (Err (why.Damaged area at)) on stays call = tt

  pub journal_still : IsByJournal before.held old → (now ≡ before) × Looked old new → IsByJournal now.held new
  journal_still by still = subst (λ (k : Kept). IsByJournal k.held new) (sym still.0) (journal_looked before.held old new still.1 by)

  pub step_journal : (r : Answer) → OnOk r (IsByJournal now.held new) → IfErr r (λ off. Stays off before now old new) → IsByJournal before.held old
      → (IsErrOf (by_step r) ending.Host → ⊥) → IsByJournal now.held new
  step_journal (Ok stepped.Nothing) on stays by fine = on
  step_journal (Ok stepped.Copied) on stays by fine = on
  step_journal (Ok stepped.Flipped) on stays by fine = on
  step_journal (Ok stepped.Finished) on stays by fine = on
  step_journal (Err (why.Full pages)) on stays by fine = journal_still by (stays (λ is. cc))
  step_journal (Err why.JournalFull) on stays by fine = journal_still by (stays (λ is. cc))
  step_journal (Err why.Host) on stays by fine = absurd (fine refl)
  step_journal (Err why.Memory) on stays by fine = journal_still by (stays (λ is. cc))
  step_journal (Err (why.Damaged area at)) on stays by fine = journal_still by (stays (λ is. cc))

pub step_alone : (r : Answer) → IsErrOf (by_step r) ending.Stage → ⊥
step_alone (Ok stepped.Nothing) is = cc
step_alone (Ok stepped.Copied) is = cc
step_alone (Ok stepped.Flipped) is = cc
step_alone (Ok stepped.Finished) is = cc
step_alone (Err (why.Full pages)) is = cc
step_alone (Err why.JournalFull) is = cc
step_alone (Err why.Host) is = cc
step_alone (Err why.Memory) is = cc
step_alone (Err (why.Damaged area at)) is = cc

pub step_undamaged : (r : Answer) → IfErr r IsStepSpared → IfErr (by_step r) IsNoDamage
step_undamaged (Ok stepped.Nothing) spared = tt
step_undamaged (Ok stepped.Copied) spared = tt
step_undamaged (Ok stepped.Flipped) spared = tt
step_undamaged (Ok stepped.Finished) spared = tt
step_undamaged (Err (why.Full pages)) spared = tt
step_undamaged (Err why.JournalFull) spared = tt
step_undamaged (Err why.Host) spared = tt
step_undamaged (Err why.Memory) spared = tt
step_undamaged (Err (why.Damaged area at)) spared = spared

-- ---- at a World

not_copied : stepped.Nothing ≡ stepped.Copied → ⊥
not_copied e = cc

not_flipped : stepped.Nothing ≡ stepped.Flipped → ⊥
not_flipped e = cc

not_finished : stepped.Nothing ≡ stepped.Finished → ⊥
not_finished e = cc

other : (s : Stepped) → (stepped.Nothing ≡ s → ⊥) → (Ok s ≡ nothing → ⊥)
other s off is = off (sym (ap (λ (r : Answer). elim r as (λ _. Stepped) [ Ok x ↦ x | Err e ↦ stepped.Nothing ]) is))

refused : (e : StepErr) → Err e ≡ nothing → ⊥
refused e is = cc

answered_none : (w : World) (o : Option Move) → IsAnswer w o stepped.Nothing → o ≡ None
answered_none w None is = refl
answered_none w (Some (Init name schema rows)) is = absurd is
answered_none w (Some (Commit cvd parents message added rows)) is = absurd is
answered_none w (Some (BeginPlan cvd p q)) is = absurd is
answered_none w (Some (Copy cvd)) is = absurd (not_copied is)
answered_none w (Some (Flip cvd)) is = by (not (runs_in (moved (Flip cvd) w) cvd)) is
  where
    by : (b : Bool) → stepped.Nothing ≡ flip_answer b → Some (Flip cvd) ≡ None
    by true is = absurd (not_finished is)
    by false is = absurd (not_flipped is)
answered_none w (Some (Drop cvd)) is = absurd is
answered_none w (Some Checkpoint) is = absurd is

module _ (w : World) (before now : Kept) (old new : State) (at : IsAtWorld w before.held old)
    (stops : (m : Move) → next_step w ≡ Some m → Only old.tape new.tape (IsEither w (moved m w) (printed_of old))) where
  -- nothing is done where no plan runs
  abbrev IsIdle : Answer → Type 0
  IsIdle r = running before.held.numbers ≡ None → (r ≡ nothing) × (now ≡ before) × (new ≡ old)

  -- so where another answer came, a step is next
  has_next : (r : Answer) → IsIdle r → (r ≡ nothing → ⊥) → (m : Move) × (next_step w ≡ Some m)
  has_next r idle some = by (next_step w) refl
    where
      by : (o : Option Move) → next_step w ≡ o → (m : Move) × (o ≡ Some m)
      by None none = absurd (some (idle (at_idle w before.held old at none)).0)
      by (Some m) is = (m, refl)

  taken : (next : (m : Move) × (next_step w ≡ Some m)) → IsAtNext (moved next.0 w) now.held old new
      → ((entry : Entry) (past : List Made) → IsWithin entry past before.held → IsWithin entry (and_made past next.0 w) now.held)
      → IsTaken w before.held now.held old new
  taken next moves room =
      record { step = next.0; next = next.1; made = record { stops = stops next.0 next.1; next = moves; within = room } }

  broken : (m : Move) × (next_step w ≡ Some m) → IsBrokenOff w old new
  broken next = record { step = next.0; next = next.1; stops = stops next.0 next.1 }

  not_taken : (now ≡ before) × Looked old new → (what : Lack) → LacksRoom w before.held what
      → IsNotTaken (LacksRoom w before.held what) before.held now.held old new
  not_taken same what lacks =
      record { held = ap (λ (k : Kept). k.held) same.0; told = same.1.told; tape = same.1.tape at.at.told; because = lacks }

  pub step_at : (r : Answer) → IsIdle r → IfOk r (λ s. s ≡ stepped.Nothing → running before.held.numbers ≡ None) → IfOk r (IsAnswer w (next_step w))
      → IfErr r (λ off. Stays off before now old new)
      → ((m : Move) → next_step w ≡ Some m → OnOk r (IsAtNext (moved m w) now.held old new))
      → ((m : Move) (entry : Entry) (past : List Made) → next_step w ≡ Some m → IsWithin entry past before.held
      → MatchResult r (λ s. IsWithin entry (and_made past m w) now.held) (IsStepLack entry past m w))
      → IsStep w (by_step r) before.held now.held old new
  step_at (Ok stepped.Nothing) idle none answer stays moves room =
      let same = idle (none refl)
      in record {
        held = ap (λ (k : Kept). k.held) same.1;
        told = ap (λ (s : State). s.tells) same.2;
        tape = ap (λ (s : State). s.tape) same.2;
        because = answered_none w (next_step w) answer;
      }
  step_at (Ok stepped.Copied) idle none answer stays moves room =
      let next = has_next (Ok stepped.Copied) idle (other stepped.Copied not_copied)
      in taken next (moves next.0 next.1) (λ entry past within. room next.0 entry past next.1 within)
  step_at (Ok stepped.Flipped) idle none answer stays moves room =
      let next = has_next (Ok stepped.Flipped) idle (other stepped.Flipped not_flipped)
      in taken next (moves next.0 next.1) (λ entry past within. room next.0 entry past next.1 within)
  step_at (Ok stepped.Finished) idle none answer stays moves room =
      let next = has_next (Ok stepped.Finished) idle (other stepped.Finished not_finished)
      in taken next (moves next.0 next.1) (λ entry past within. room next.0 entry past next.1 within)
  step_at (Err (why.Full pages)) idle none answer stays moves room =
      let next = has_next (Err (why.Full pages)) idle (refused (why.Full pages))
      in not_taken (stays (λ is. cc)) (lack.Run pages)
      (record { step = next.0; next = next.1; wanting = λ entry past within. room next.0 entry past next.1 within })
  step_at (Err why.JournalFull) idle none answer stays moves room =
      let next = has_next (Err why.JournalFull) idle (refused why.JournalFull)
      in not_taken (stays (λ is. cc)) lack.Record
      (record { step = next.0; next = next.1; wanting = λ entry past within. room next.0 entry past next.1 within })
  step_at (Err why.Host) idle none answer stays moves room = broken (has_next (Err why.Host) idle (refused why.Host))
  step_at (Err why.Memory) idle none answer stays moves room = broken (has_next (Err why.Memory) idle (refused why.Memory))
  step_at (Err (why.Damaged area at_)) idle none answer stays moves room =
      broken (has_next (Err (why.Damaged area at_)) idle (refused (why.Damaged area at_)))

-- ---- behind those that were taken

module _ (n left taken : ℕ) (w v : World) (before now later : Held) (old mid new : State) (is : IsStepping n (suc left) w v before now old mid) (count : taken + suc left ≡ n) where
  -- one more
  pub steps_more : IsTaken v now later mid new → (u : World) × IsStepping n left w u before later old new
  steps_more step = (moved step.step v, stepping_more n left w v step.step before now old mid is step.next later new step.made)

  -- none is taken any more
  stepping_still : now ≡ later → new.tells ≡ mid.tells → new.tape ≡ mid.tape → IsStepping n (suc left) w v before later old new
  stepping_still held told tape =
      subst (λ (h : Held). IsStepping n (suc left) w v before h old new) held (stepping_looked n (suc left) w v before now old mid is new told tape)

  pub steps_end : IsNotTaken (next_step v ≡ None) now later mid new → IsSteppedBy n w (record { taken = taken; lacks = None }) before later old new
  steps_end step = record {
    left = suc left;
    count = count;
    world = v;
    stepping = stepping_still (sym step.held) step.told step.tape;
    over = inr step.because;
  }

  pub steps_lack : (what : Lack) → IsNotTaken (LacksRoom v now what) now later mid new
      → IsSteppedBy n w (record { taken = taken; lacks = Some what }) before later old new
  steps_lack what step = record {
    left = suc left;
    count = count;
    world = v;
    stepping = stepping_still (sym step.held) step.told step.tape;
    over = (omega arith, subst (λ (h : Held). LacksRoom v h what) (sym step.held) step.because);
  }

  -- the run ends in one
  pub steps_break : IsBrokenOff v mid new → IsCutOff n w before old new
  steps_break step = record { left = left; world = v; held = now; mid = mid; stepping = is; broken = step }

-- all were taken
pub steps_all : (n left taken : ℕ) (w v : World) (before now : Held) (old new : State) → taken + left ≡ n → left ≡ 0 → IsStepping n left w v before now old new
    → IsSteppedBy n w (record { taken = taken; lacks = None }) before now old new
steps_all n left taken w v before now old new count none is = record { left = left; count = count; world = v; stepping = is; over = inl none }

-- some are left
pub some_left : (left : ℕ) → 1 ≤ left → (k : ℕ) × (left ≡ suc k)
some_left zero low = absurd (omega (arith, low))
some_left (suc k) low = (k, refl)

-- ---- those behind a reply

module _ (n : ℕ) (w : World) (before : Held) (old : State) where
  module _ (left : ℕ) (v : World) (now : Held) (new : State) (is : IsStepping n left w v before now old new) where
    lacking : (k : ℕ) → left ≡ suc k → (what : Lack) → LacksRoom v now what → IsStepped n w true before now old new
    lacking k same (lack.Run pages) room =
        stepped_no_run n k w v room.step before now old new (subst (λ (m : ℕ). IsStepping n m w v before now old new) same is) room.next pages room.wanting
    lacking k same lack.Record room =
        stepped_full n k w v room.step before now old new (subst (λ (m : ℕ). IsStepping n m w v before now old new) same is) room.next room.wanting

    over_stepped : (o : Option Lack) → IsOver left v now o → IsStepped n w true before now old new
    over_stepped None (inl none) = stepped_over n w v before now old new (subst (λ (m : ℕ). IsStepping n m w v before now old new) none is)
    over_stepped None (inr idle) = stepped_idle n left w v before now old new is idle
    over_stepped (Some what) over = let some = some_left left over.0 in lacking some.0 some.1 what over.1

  pub ran_stepped : (ran : Ran) (now : Held) (new : State) → IsSteppedBy n w ran before now old new → IsStepped n w true before now old new
  ran_stepped ran now new is = over_stepped is.left is.world now new is.stepping ran.lacks is.over

  pub cut_stepped : (later : Held) (new : State) → IsCutOff n w before old new → IsStepped n w false before later old new
  cut_stepped later new is =
      stepped_broken n is.left w is.world is.broken.step before is.held old is.mid is.stepping is.broken.next later new is.broken.stops

-- where they ended, the store is at some World, and nothing was printed
pub ran_at : (n : ℕ) (w : World) (ran : Ran) (before now : Held) (old new : State) → IsSteppedBy n w ran before now old new → IsAtSilently now old new
ran_at n w ran before now old new is = record { at = (is.world, is.stepping.at); printed = is.stepping.printed }

-- what is left of so many steps, before the next one
pub counted_down : (n counter : ℕ) → counter < n → n - counter ≡ suc (n - (counter + 1))
counted_down n counter low = omega (arith, low)

-- ---- where none is asked for or no plan ran

abbrev pub turned : Turn → Result Turn EndErr
turned t = Ok t

abbrev pub none_taken : ℕ → Result Ran EndErr
none_taken n = Ok (record { taken = n; lacks = None })

one_turn : (a b : Turn) → turned a ≡ turned b → a ≡ b
one_turn a b e = cc

pub ok_turn : (t a b : Turn) → t ≡ a → turned t ≡ turned b → turned a ≡ turned b
ok_turn t a b is as_ = sym (ap turned is) ∙ as_

pub no_turn : (e : EndErr) → (let one : Result Turn EndErr = Err e in one) ≡ turned turn.Idle → ⊥
no_turn e is = cc

-- none runs before the next one either, so no other answer comes
pub never_idle : (n counter : ℕ) (before now : Held) → counter < n → now ≡ before → TakesNoStep n before.numbers → running now.numbers ≡ None
never_idle n counter before now low same (inl zero_is) = absurd (omega (arith, low, zero_is))
never_idle n counter before now low same (inr idle) = subst (λ (h : Held). running h.numbers ≡ None) (sym same) idle

pub never_other : (n counter : ℕ) (before now : Held) (t : Turn) → (t ≡ turn.Idle → ⊥) → counter < n → now ≡ before
    → (running now.numbers ≡ None → turned t ≡ turned turn.Idle) → TakesNoStep n before.numbers → ⊥
never_other n counter before now t other low same none behind = other (one_turn t turn.Idle (none (never_idle n counter before now low same behind)))

pub taken_other : turn.Taken ≡ turn.Idle → ⊥
taken_other e = cc

pub lacks_other : (what : Lack) → turn.Lacks what ≡ turn.Idle → ⊥
lacks_other what e = cc

-- none yet, of all that may come
pub stepping_start : (n : ℕ) (w : World) (held : Held) (st : State) → IsAtWorld w held st → IsStepping n (n - 0) w w held held st st
stepping_start n w held st at = let all : n ≡ n - 0 = omega arith in subst (λ (k : ℕ). IsStepping n k w w held held st st) all (stepping_none n w held st at)

-- two ends that are one
pub end_is : {A : Type 0} → (e f : EndErr) → (let one : Result A EndErr = Err e in one) ≡ Err f → e ≡ f
end_is e f is = cc

-- an end that a part gave
pub err_is : {A : Type 0} → (r : Result A EndErr) (x : EndErr) → IsErr r → IsErrAnd r (λ y. y ≡ x) → r ≡ Err x
err_is (Ok a) x fails is = absurd is
err_is (Err y) x fails is = ap Err is
