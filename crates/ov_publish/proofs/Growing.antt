-- Writes to the pages, and what a stop among them leaves.
use Rattle.std.proofs.Common.{◌≡◌, ◌<◌, ◌≤◌, inl, inr, ℕ, ◌+◌, Bool, true, false, List, [], ◌∷◌, length, get_or, refl, sym, ◌∙◌, ap, subst, arith}
use Rattle.ov_host.specs.declared.area.Area.TheVariants.{Pages}
use Rattle.ov_host.specs.Disk.{Disk, Image, Stored, Leaves, IsWritten, MayLeave, with_area, settled}
use Rattle.ov_host.specs.Host.{State, Calls}
use Rattle.ov_host.specs.Stops.{Only}
use Rattle.ov_host.specs.Tape.{Writes, Looks, Syncs, Torn, Tape, Plays, marked, overwritten, done}
use Rattle.ov_host.proofs.Stops.{only_start, only_then, call_only, done_disk}
use Rattle.ov_host.proofs.Writes.{settled_leaves, torn_same, torn_overwritten, same_off, is_off}
use Rattle.ov_publish.specs.Puts.{Grows, StaysOff, AreIn, Puts}

pub grows_start : (free : List (ℕ × ℕ)) (d : Disk) → d.pages ≡ settled d.pages.bytes → Grows free d d
grows_start free d rest =
    let None : List (ℕ × ℕ) → Type 0 = λ w. (p : ℕ) → p < length d.pages.bytes → IsWritten w p → IsWritten free p
    in record {
      synced = ap (λ (a : Stored). a.synced) rest;
      written = subst None (sym (ap (λ (a : Stored). a.written) rest)) (λ p lt w. absurd w);
      longer = omega arith;
      same = λ p lt off. refl;
      journal_same = refl;
      printed_same = refl;
    }

module _ (free : List (ℕ × ℕ)) (d e : Disk) (is : Grows free d e) where
  pub grows_leaves : (c : Image) → MayLeave e c → StaysOff free d c
  grows_leaves c left =
      record {
        long = omega (arith, is.synced, left.pages.no_shorter);
        same = λ p lt off. left.pages.same p (omega (arith, is.synced)) (λ w. off (is.written p lt w)) ∙ is.same p lt off;
        journal = subst (λ a. Leaves a c.journal) is.journal_same left.journal;
        printed = left.printed ∙ is.printed_same;
      }

  -- once it is settled
  pub settled_off : (c : Image) → MayLeave (done (Syncs Pages) e) c → StaysOff free d c
  settled_off c left =
      let whole : c.pages ≡ e.pages.bytes = settled_leaves e.pages.bytes c.pages left.pages
      in record {
        long = omega (arith, ap length whole, is.longer);
        same = λ p lt off. ap (λ (b : List ℕ). get_or b p 0) whole ∙ is.same p lt off;
        journal = subst (λ a. Leaves a c.journal) is.journal_same left.journal;
        printed = left.printed ∙ is.printed_same;
      }

  -- the places of a write that the disk had are free
  abbrev pub InFree : ℕ → ℕ → Type 0
  InFree at n = (p : ℕ) → p < length e.pages.bytes → IsWritten ((at, at + n) ∷ []) p → IsWritten free p

  written_in : (at n : ℕ) → InFree at n → (p : ℕ) → p < length d.pages.bytes → IsWritten ((at, at + n) ∷ e.pages.written) p → IsWritten free p
  written_in at n within p lt (inl here) = within p (omega (arith, is.longer)) (inl here)
  written_in at n within p lt (inr before) = is.written p lt before

  pub grows_more : (at n : ℕ) (torn : List ℕ) → InFree at n → Torn at n e.pages.bytes torn → Grows free d (with_area Pages (marked at n torn e.pages) e)
  grows_more at n torn within is_torn =
      record {
        synced = is.synced;
        written = written_in at n within;
        longer = omega (arith, is.longer, is_torn.no_shorter);
        same = λ p lt off.
            same_off e.pages.bytes torn at n p is_torn
            (is_off at n p [] (λ w. off (within p (omega (arith, is.longer)) w)))
            ∙ is.same p lt off;
        journal_same = is.journal_same;
        printed_same = is.printed_same;
      }

-- what a write has done of its work
data Wrote (at n : ℕ) (d e : Disk) : Type 0 where
  nothing : e ≡ d → Wrote at n d e
  some : (torn : List ℕ) → Torn at n d.pages.bytes torn → e ≡ with_area Pages (marked at n torn d.pages) d → Wrote at n d e

wrote : (t u : Tape) (at : ℕ) (x : List ℕ) (ok : Bool) → at ≤ length t.disk.pages.bytes → Plays (Writes Pages at x) ok t u → Wrote at (length x) t.disk u.disk
wrote t u at x true within is =
    some (overwritten t.disk.pages.bytes at x) (torn_overwritten t.disk.pages.bytes x at within) (ap (λ (v : Tape). v.disk) is)
wrote t u at x false within (inl same) = nothing (ap (λ (v : Tape). v.disk) same)
wrote t u at x false within (inr is) = some is.1.0 is.1.1 (ap (λ (v : Tape). v.disk) is.2 ∙ is.1.2)

wrote_journal : (at n : ℕ) (d e : Disk) → Wrote at n d e → e.journal ≡ d.journal
wrote_journal at n d e (nothing same) = ap (λ (f : Disk). f.journal) same
wrote_journal at n d e (some torn is eq) = ap (λ (f : Disk). f.journal) eq

wrote_printed : (at n : ℕ) (d e : Disk) → Wrote at n d e → e.printed ≡ d.printed
wrote_printed at n d e (nothing same) = ap (λ (f : Disk). f.printed) same
wrote_printed at n d e (some torn is eq) = ap (λ (f : Disk). f.printed) eq

wrote_grows : (free : List (ℕ × ℕ)) (at n : ℕ) (d e f : Disk) (is : Grows free d e) → InFree free d e is at n → Wrote at n e f → Grows free d f
wrote_grows free at n d e f is within (nothing same) = let G : Disk → Type 0 = λ g. Grows free d g in subst G (sym same) is
wrote_grows free at n d e f is within (some torn is_torn eq) =
    let G : Disk → Type 0 = λ g. Grows free d g in subst G (sym eq) (grows_more free d e is at n torn within is_torn)

-- one write
pub write_puts : (ranges : List (ℕ × ℕ)) (s t : State) (at : ℕ) (x : List ℕ) (ok : Bool) → (s.tells ≡ true → at ≤ length s.tape.disk.pages.bytes)
    → (s.tells ≡ true → (p : ℕ) → p < length s.tape.disk.pages.bytes → IsWritten ((at, at + length x) ∷ []) p → IsWritten ranges p)
    → Calls (Writes Pages at x) ok s t → t.fetched ≡ s.fetched → Puts ranges s t
write_puts ranges s t at x ok within in_ranges calls fetched =
    record {
      told = calls.told;
      kept = calls.kept;
      faults = calls.faults;
      fetched = fetched;
      journal_same = λ tells. wrote_journal at (length x) s.tape.disk t.tape.disk (wrote s.tape t.tape at x ok (within tells) (calls.plays tells));
      printed_same = λ tells. wrote_printed at (length x) s.tape.disk t.tape.disk (wrote s.tape t.tape at x ok (within tells) (calls.plays tells));
      spreads = λ tells free into d is.
          let e : Disk = s.tape.disk
          in let free_here : InFree free d e is at (length x) = λ p lt w. into p (in_ranges tells p lt w)
          in (
            call_only (Writes Pages at x) ok s.tape t.tape (StaysOff free d) (calls.plays tells)
                (λ c left. grows_leaves free d (with_area Pages (marked at (length x) e.pages.bytes e.pages) e) (grows_more free d e is at (length x) e.pages.bytes free_here (torn_same e.pages.bytes at (length x))) c left)
                (λ _ c left. grows_leaves free d (done (Writes Pages at x) e) (grows_more free d e is at (length x) (overwritten e.pages.bytes at x) free_here (torn_overwritten e.pages.bytes x at (within tells))) c left),
            wrote_grows free at (length x) d e t.tape.disk is free_here (wrote s.tape t.tape at x ok (within tells) (calls.plays tells)),
          );
    }

-- a call that looks
pub look_puts : (ranges : List (ℕ × ℕ)) (s t : State) (ok : Bool) → Calls Looks ok s t → t.fetched ≡ s.fetched → Puts ranges s t
look_puts ranges s t ok calls fetched =
    record {
      told = calls.told;
      kept = calls.kept;
      faults = calls.faults;
      fetched = fetched;
      journal_same = λ tells. ap (λ (v : Tape). v.disk.journal) (calls.plays tells);
      printed_same = λ tells. ap (λ (v : Tape). v.disk.printed) (calls.plays tells);
      spreads = λ tells free into d is. (
        call_only Looks ok s.tape t.tape (StaysOff free d) (calls.plays tells)
            (grows_leaves free d s.tape.disk is) (λ _. grows_leaves free d s.tape.disk is),
        (let G : Tape → Type 0 = λ u. Grows free d u.disk in subst G (sym (calls.plays tells)) is),
      );
    }

-- no call
pub none_puts : (ranges : List (ℕ × ℕ)) (s : State) → Puts ranges s s
none_puts ranges s =
    record {
      told = refl;
      kept = refl;
      faults = omega arith;
      fetched = refl;
      journal_same = λ tells. refl;
      printed_same = λ tells. refl;
      spreads = λ tells free into d is. (only_start s.tape (StaysOff free d) (grows_leaves free d s.tape.disk is), is);
    }

-- calls, and then further ones
pub puts_then : (ranges : List (ℕ × ℕ)) (s t u : State) → Puts ranges s t → Puts ranges t u → Puts ranges s u
puts_then ranges s t u x y =
    record {
      told = y.told ∙ x.told;
      kept = y.kept ∙ x.kept;
      faults = omega (arith, x.faults, y.faults);
      fetched = y.fetched ∙ x.fetched;
      journal_same = λ tells. y.journal_same (x.told ∙ tells) ∙ x.journal_same tells;
      printed_same = λ tells. y.printed_same (x.told ∙ tells) ∙ x.printed_same tells;
      spreads = λ tells free into d is.
          let one : Only s.tape t.tape (StaysOff free d) × Grows free d t.tape.disk = x.spreads tells free into d is
          in let two : Only t.tape u.tape (StaysOff free d) × Grows free d u.tape.disk = y.spreads (x.told ∙ tells) free into d one.1
          in (only_then s.tape t.tape u.tape (StaysOff free d) one.0 two.0, two.1);
    }

-- more ranges
pub puts_wider : (ranges more : List (ℕ × ℕ)) (s t : State) → AreIn ranges more → Puts ranges s t → Puts more s t
puts_wider ranges more s t wider x =
    record {
      told = x.told;
      kept = x.kept;
      faults = x.faults;
      fetched = x.fetched;
      journal_same = x.journal_same;
      printed_same = x.printed_same;
      spreads = λ tells free into. x.spreads tells free (λ p w. into p (wider p w));
    }

pub none_in : (ranges : List (ℕ × ℕ)) → AreIn [] ranges
none_in ranges p w = absurd w

pub first_in : (r q : ℕ × ℕ) → AreIn (r ∷ []) (r ∷ q ∷ [])
first_in r q p (inl here) = inl here
first_in r q p (inr none) = absurd none

pub second_in : (r q : ℕ × ℕ) → AreIn (q ∷ []) (r ∷ q ∷ [])
second_in r q p (inl here) = inr (inl here)
second_in r q p (inr none) = absurd none

-- the bytes after a write that answered Ok
pub written_bytes : (s t : State) (at : ℕ) (x : List ℕ) → Calls (Writes Pages at x) true s t → s.tells ≡ true → t.tape.disk.pages.bytes ≡ overwritten s.tape.disk.pages.bytes at x
written_bytes s t at x calls tells = ap (λ (d : Disk). d.pages.bytes) (done_disk (Writes Pages at x) s.tape t.tape (calls.plays tells))
