-- Two writes to the journal and one sync, where nothing is pending before.
use Rattle.std.proofs.Common.{◌≡◌, ◌≤◌, inl, inr, ℕ, ◌+◌, Bool, true, List, [], ◌∷◌, length, get_or, refl, sym, ◌∙◌, ap, subst, arith}
use Rattle.ov_host.specs.declared.area.Area.TheVariants.{Journal}
use Rattle.ov_host.specs.Disk.{Disk, Image, Stored, Leaves, IsWritten, MayLeave, with_area, settled}
use Rattle.ov_host.specs.Host.{State, Calls}
use Rattle.ov_host.specs.Stops.{Only}
use Rattle.ov_host.specs.Tape.{Writes, Syncs, Torn, marked, overwritten, done}
use Rattle.ov_host.proofs.Stops.{only_then, call_only, done_disk}
use Rattle.ov_host.proofs.Writes.{settled_leaves, torn_same, torn_overwritten, same_off, is_off}
use Rattle.ov_journal.specs.Held.{IsOff, AtRest, two_ranges}

-- Since a disk with nothing pending in its journal, only places in these ranges were written there, and none was settled.
pub record IsPending (ranges : List (ℕ × ℕ)) (d e : Disk) : Type 0 where
  pub synced : e.journal.synced ≡ length d.journal.bytes
  pub written : (p : ℕ) → IsWritten e.journal.written p → IsWritten ranges p
  pub longer : length d.journal.bytes ≤ length e.journal.bytes
  pub same : (p : ℕ) → (IsWritten ranges p → ⊥) → get_or e.journal.bytes p 0 ≡ get_or d.journal.bytes p 0
  pub pages_same : e.pages ≡ d.pages
  pub printed_same : e.printed ≡ d.printed

-- each of n places from a place on is in these ranges
abbrev AreIn : List (ℕ × ℕ) → ℕ → ℕ → Type 0
AreIn ranges at n = (p : ℕ) → IsWritten ((at, at + n) ∷ []) p → IsWritten ranges p

pending_start : (ranges : List (ℕ × ℕ)) (d : Disk) → d.journal ≡ settled d.journal.bytes → IsPending ranges d d
pending_start ranges d rest =
    let None : List (ℕ × ℕ) → Type 0 = λ w. (p : ℕ) → IsWritten w p → IsWritten ranges p
    in record {
      synced = ap (λ (a : Stored). a.synced) rest;
      written = subst None (sym (ap (λ (a : Stored). a.written) rest)) (λ p w. absurd w);
      longer = omega arith;
      same = λ p off. refl;
      pages_same = refl;
      printed_same = refl;
    }

module _ (ranges : List (ℕ × ℕ)) (d e : Disk) (is : IsPending ranges d e) where
  pending_leaves : (c : Image) → MayLeave e c → IsOff ranges d c
  pending_leaves c left =
      record {
        long = omega (arith, is.synced, left.journal.no_shorter);
        same = λ p lt off. left.journal.same p (omega (arith, is.synced)) (λ w. off (is.written p w)) ∙ is.same p off;
        pages = subst (λ a. Leaves a c.pages) is.pages_same left.pages;
        printed = left.printed ∙ is.printed_same;
      }

  -- once it is settled
  settled_off : (c : Image) → MayLeave (done (Syncs Journal) e) c → IsOff ranges d c
  settled_off c left =
      let whole : c.journal ≡ e.journal.bytes = settled_leaves e.journal.bytes c.journal left.journal
      in record {
        long = omega (arith, ap length whole, is.longer);
        same = λ p lt off. ap (λ (b : List ℕ). get_or b p 0) whole ∙ is.same p off;
        pages = subst (λ a. Leaves a c.pages) is.pages_same left.pages;
        printed = left.printed ∙ is.printed_same;
      }

  -- a write into the ranges
  written_in : (at n : ℕ) → AreIn ranges at n → (p : ℕ) → IsWritten ((at, at + n) ∷ e.journal.written) p → IsWritten ranges p
  written_in at n within p (inl here) = within p (inl here)
  written_in at n within p (inr before) = is.written p before

  pending_more : (at n : ℕ) (torn : List ℕ) → AreIn ranges at n → Torn at n e.journal.bytes torn → IsPending ranges d (with_area Journal (marked at n torn e.journal) e)
  pending_more at n torn within is_torn =
      record {
        synced = is.synced;
        written = written_in at n within;
        longer = omega (arith, is.longer, is_torn.no_shorter);
        same = λ p off. same_off e.journal.bytes torn at n p is_torn (is_off at n p [] (λ w. off (within p w))) ∙ is.same p off;
        pages_same = is.pages_same;
        printed_same = is.printed_same;
      }

write_off : (ranges : List (ℕ × ℕ)) (d : Disk) (s t : State) (at : ℕ) (x : List ℕ) (ok : Bool) → IsPending ranges d s.tape.disk → AreIn ranges at (length x) → at ≤ length s.tape.disk.journal.bytes → s.tells ≡ true → Calls (Writes Journal at x) ok s t
    → Only s.tape t.tape (IsOff ranges d)
write_off ranges d s t at x ok is within there told calls =
    let e : Disk = s.tape.disk
    in call_only (Writes Journal at x) ok s.tape t.tape (IsOff ranges d) (calls.plays told)
    (λ c left.
    pending_leaves ranges d (with_area Journal (marked at (length x) e.journal.bytes e.journal) e)
    (pending_more ranges d e is at (length x) e.journal.bytes within (torn_same e.journal.bytes at (length x))) c left)
    (λ _ c left.
    pending_leaves ranges d (done (Writes Journal at x) e)
    (pending_more ranges d e is at (length x) (overwritten e.journal.bytes at x) within (torn_overwritten e.journal.bytes x at there)) c left)

write_pending : (ranges : List (ℕ × ℕ)) (d : Disk) (s t : State) (at : ℕ) (x : List ℕ) → IsPending ranges d s.tape.disk → AreIn ranges at (length x) → at ≤ length s.tape.disk.journal.bytes → s.tells ≡ true → Calls (Writes Journal at x) true s t
    → IsPending ranges d t.tape.disk
write_pending ranges d s t at x is within there told calls =
    let e : Disk = s.tape.disk
    in let Is : Disk → Type 0 = λ f. IsPending ranges d f
    in subst Is (sym (done_disk (Writes Journal at x) s.tape t.tape (calls.plays told)))
    (pending_more ranges d e is at (length x) (overwritten e.journal.bytes at x) within (torn_overwritten e.journal.bytes x at there))

module _ (s0 : State) (at place : ℕ) (x y : List ℕ) (first_there : s0.tells ≡ true → at ≤ length s0.tape.disk.journal.bytes) (second_there : s0.tells ≡ true → place ≤ length s0.tape.disk.journal.bytes) where
  abbrev ranges : List (ℕ × ℕ)
  ranges = two_ranges at (length x) place (length y)

  in_first : AreIn ranges at (length x)
  in_first p (inl here) = inl here
  in_first p (inr none) = absurd none

  in_second : AreIn ranges place (length y)
  in_second p (inl here) = inr (inl here)
  in_second p (inr none) = absurd none

  -- a stop in the first write
  pub first : (s1 : State) (ok : Bool) → Calls (Writes Journal at x) ok s0 s1 → AtRest s0 → Only s0.tape s1.tape (IsOff ranges s0.tape.disk)
  first s1 ok calls rest =
      write_off ranges s0.tape.disk s0 s1 at x ok (pending_start ranges s0.tape.disk rest.rest) in_first (first_there rest.told) rest.told calls

  module _ (s1 : State) (before : Calls (Writes Journal at x) true s0 s1) where
    pending : AtRest s0 → IsPending ranges s0.tape.disk s1.tape.disk
    pending rest =
        write_pending ranges s0.tape.disk s0 s1 at x (pending_start ranges s0.tape.disk rest.rest) in_first (first_there rest.told) rest.told before

    there : AtRest s0 → place ≤ length s1.tape.disk.journal.bytes
    there rest = omega (arith, second_there rest.told, (pending rest).longer)

    -- and in the second
    pub second : (s2 : State) (ok : Bool) → Calls (Writes Journal place y) ok s1 s2 → AtRest s0 → Only s0.tape s2.tape (IsOff ranges s0.tape.disk)
    second s2 ok calls rest =
        only_then s0.tape s1.tape s2.tape (IsOff ranges s0.tape.disk) (first s1 true before rest)
        (write_off ranges s0.tape.disk s1 s2 place y ok (pending rest) in_second (there rest) (before.told ∙ rest.told) calls)

    -- and in the sync
    pub third : (s2 s3 : State) (ok : Bool) → Calls (Writes Journal place y) true s1 s2 → Calls (Syncs Journal) ok s2 s3 → AtRest s0 → Only s0.tape s3.tape (IsOff ranges s0.tape.disk)
    third s2 s3 ok calls syncs rest =
        let both : IsPending ranges s0.tape.disk s2.tape.disk =
        write_pending ranges s0.tape.disk s1 s2 place y (pending rest) in_second (there rest) (before.told ∙ rest.told) calls
        in only_then s0.tape s2.tape s3.tape (IsOff ranges s0.tape.disk) (second s2 true calls rest)
        (call_only (Syncs Journal) ok s2.tape s3.tape (IsOff ranges s0.tape.disk) (syncs.plays (calls.told ∙ before.told ∙ rest.told))
        (pending_leaves ranges s0.tape.disk s2.tape.disk both)
        (λ _. settled_off ranges s0.tape.disk s2.tape.disk both))
