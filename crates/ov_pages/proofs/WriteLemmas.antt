-- A write into free ranges.
use Rattle.std.proofs.Common.{◌≡◌, ◌<◌, ◌≤◌, ◌⊎◌, inl, inr, ℕ, ◌+◌, ◌-◌, Bool, true, false, List, [], ◌∷◌, ◌++◌, length, take, drop, get_or, Result, Ok, Err, is_ok, refl, sym, ◌∙◌, ap, subst, append_assoc, arith}
use Rattle.std.proofs.lemmas.List.{get_or-take, get_or-drop, take_at, drop_at, length-take, length-drop, length-append, append-nil}
use Rattle.std.specs.Prelude.{OnOk}
use Rattle.std.proofs.lemmas.Bool.{cases_lt}
use Rattle.ov_host.specs.declared.area.Area.TheVariants.{Pages}
use Rattle.ov_host.specs.Disk.{Disk, Image, Stored, Leaves, IsWritten, MayLeave, with_area}
use Rattle.ov_host.specs.Tape.{Tape, Torn, Writes, marked, overwritten, onto, Plays}
use Rattle.ov_host.specs.Stops.{Only}
use Rattle.ov_pages.specs.Writes.{Grows, StaysOff, AreFree}

-- a place off free ranges is off the range that is written
off_range : (free : List (ℕ × ℕ)) (at n p : ℕ) → AreFree free at n → (IsWritten free p → ⊥) → (p < at) ⊎ (at + n ≤ p)
off_range free at n p within off =
    elim (cases_lt p at) [
      | inl before ↦ inl before
      | inr from ↦ elim (cases_lt p (at + n)) [ inl here ↦ absurd (off (within p from here)) | inr after ↦ inr after ]
    ]

not_written : (free written : List (ℕ × ℕ)) (at n p : ℕ) → AreFree free at n → ((q : ℕ) → IsWritten written q → IsWritten free q) → (IsWritten free p → ⊥) → IsWritten ((at, at + n) ∷ written) p → ⊥
not_written free written at n p within known off (inl here) = off (within p here.0 here.1)
not_written free written at n p within known off (inr before) = off (known p before)

marked_written : (free written : List (ℕ × ℕ)) (at n p : ℕ) → AreFree free at n → ((q : ℕ) → IsWritten written q → IsWritten free q) → IsWritten ((at, at + n) ∷ written) p → IsWritten free p
marked_written free written at n p within known (inl here) = within p here.0 here.1
marked_written free written at n p within known (inr before) = known p before

same_before : (b c : List ℕ) (at n p : ℕ) → Torn at n b c → p < at → get_or c p 0 ≡ get_or b p 0
same_before b c at n p torn lt = sym (get_or-take at c p 0 lt) ∙ ap (λ (xs : List ℕ). get_or xs p 0) torn.before ∙ get_or-take at b p 0 lt

same_after : (b c : List ℕ) (at n p : ℕ) → Torn at n b c → at + n ≤ p → get_or c p 0 ≡ get_or b p 0
same_after b c at n p torn le =
    let place : at + n + (p - (at + n)) ≡ p = omega arith in
    sym (ap (λ (q : ℕ). get_or c q 0) place)
    ∙ sym (get_or-drop (at + n) c (p - (at + n)) 0)
    ∙ ap (λ (xs : List ℕ). get_or xs (p - (at + n)) 0) torn.after
    ∙ get_or-drop (at + n) b (p - (at + n)) 0
    ∙ ap (λ (q : ℕ). get_or b q 0) place

same_off : (b c : List ℕ) (at n p : ℕ) → Torn at n b c → (p < at) ⊎ (at + n ≤ p) → get_or c p 0 ≡ get_or b p 0
same_off b c at n p torn (inl before) = same_before b c at n p torn before
same_off b c at n p torn (inr after) = same_after b c at n p torn after

torn_same : (b : List ℕ) (at n : ℕ) → Torn at n b b
torn_same b at n = record { before = refl; after = refl; no_shorter = omega arith; no_longer = omega arith }

torn_overwritten : (b x : List ℕ) (at : ℕ) → at ≤ length b → Torn at (length x) b (overwritten b at x)
torn_overwritten b x at within =
    let front : length (take at b) ≡ at = omega (arith, length-take at b) in
    let both : length (take at b ++ x) ≡ at + length x = omega (arith, front, length-append (take at b) x) in
    let all : length (overwritten b at x) ≡ at + length x + (length b - (at + length x)) =
    length-append (take at b ++ x) (drop (at + length x) b) ∙ omega (arith, both, length-drop (at + length x) b) in
    record {
      before = ap (take at) (append_assoc (take at b) x (drop (at + length x) b)) ∙ take_at (take at b) (x ++ drop (at + length x) b) at front;
      after = drop_at (take at b ++ x) (drop (at + length x) b) (at + length x) both;
      no_shorter = omega (arith, all);
      no_longer = omega (arith, all);
    }

-- what was written reads so
pub overwritten_reads : (b x : List ℕ) (at : ℕ) → at ≤ length b → take (length x) (drop at (overwritten b at x)) ≡ x
overwritten_reads b x at within =
    let front : length (take at b) ≡ at = omega (arith, length-take at b) in
    ap (λ (xs : List ℕ). take (length x) (drop at xs)) (append_assoc (take at b) x (drop (at + length x) b))
    ∙ ap (take (length x)) (drop_at (take at b) (x ++ drop (at + length x) b) at front)
    ∙ take_at x (drop (at + length x) b) (length x) refl

-- a disk after a write that left torn bytes in its range
abbrev torn_disk : ℕ → ℕ → List ℕ → Disk → Disk
torn_disk at n torn d = with_area Pages (marked at n torn d.pages) d

torn_stops : (free : List (ℕ × ℕ)) (d e : Disk) (at n : ℕ) (torn : List ℕ) → Grows free d e → AreFree free at n → Torn at n e.pages.bytes torn → (c : Image) → MayLeave (torn_disk at n torn e) c → StaysOff free d c
torn_stops free d e at n torn grows within is_torn c left = record {
  long = let synced = grows.synced in let short = left.pages.no_shorter in omega arith;
  same = λ p lt off.
      let synced = grows.synced in
      left.pages.same p (omega arith) (not_written free e.pages.written at n p within grows.written off)
      ∙ same_off e.pages.bytes torn at n p is_torn (off_range free at n p within off)
      ∙ grows.same p lt off;
  journal = subst (λ (a : Stored). Leaves a c.journal) grows.journal left.journal;
  printed = left.printed ∙ grows.printed;
}

grows_stops : (free : List (ℕ × ℕ)) (d e : Disk) → Grows free d e → (c : Image) → MayLeave e c → StaysOff free d c
grows_stops free d e grows c left = record {
  long = let synced = grows.synced in let short = left.pages.no_shorter in omega arith;
  same = λ p lt off. let synced = grows.synced in left.pages.same p (omega arith) (λ w. off (grows.written p w)) ∙ grows.same p lt off;
  journal = subst (λ (a : Stored). Leaves a c.journal) grows.journal left.journal;
  printed = left.printed ∙ grows.printed;
}

torn_grows : (free : List (ℕ × ℕ)) (d e : Disk) (at n : ℕ) (torn : List ℕ) → Grows free d e → AreFree free at n → Torn at n e.pages.bytes torn → Grows free d (torn_disk at n torn e)
torn_grows free d e at n torn grows within is_torn = record {
  synced = grows.synced;
  written = λ p w. marked_written free e.pages.written at n p within grows.written w;
  longer = let before = grows.longer in let after = is_torn.no_shorter in omega arith;
  same = λ p lt off. same_off e.pages.bytes torn at n p is_torn (off_range free at n p within off) ∙ grows.same p lt off;
  journal = grows.journal;
  printed = grows.printed;
}

-- stops of one write that left torn bytes
torn_only : (free : List (ℕ × ℕ)) (d : Disk) (t : Tape) (at : ℕ) (bytes torn : List ℕ) → Grows free d t.disk → AreFree free at (length bytes) → Torn at (length bytes) t.disk.pages.bytes torn
    → Only t (onto (Writes Pages at bytes) (torn_disk at (length bytes) torn t.disk) t) (StaysOff free d)
torn_only free d t at bytes torn grows within is_torn = record {
  more = record { call = Writes Pages at bytes; disk = t.disk } ∷ [];
  past = refl;
  during = (λ c left. torn_stops free d t.disk at (length bytes) t.disk.pages.bytes grows within (torn_same t.disk.pages.bytes at (length bytes)) c left, tt);
  now = torn_stops free d t.disk at (length bytes) torn grows within is_torn;
}

none_only : (free : List (ℕ × ℕ)) (d : Disk) (t : Tape) → Grows free d t.disk → Only t t (StaysOff free d)
none_only free d t grows = record { more = []; past = sym (append-nil t.past); during = tt; now = grows_stops free d t.disk grows }

pub write_stops : (free : List (ℕ × ℕ)) (d : Disk) (ok : Bool) (t u : Tape) (at : ℕ) (bytes : List ℕ) → at ≤ length t.disk.pages.bytes → Grows free d t.disk → AreFree free at (length bytes) → Plays (Writes Pages at bytes) ok t u → Only t u (StaysOff free d)
write_stops free d true t u at bytes there grows within plays = rw plays (torn_only free d t at bytes (overwritten t.disk.pages.bytes at bytes) grows within (torn_overwritten t.disk.pages.bytes bytes at there))
write_stops free d false t u at bytes there grows within (inl same) = rw same (none_only free d t grows)
write_stops free d false t u at bytes there grows within (inr part) = rw (part.2, part.1.2) (torn_only free d t at bytes part.1.0 grows within part.1.1)

pub write_grows : (free : List (ℕ × ℕ)) (d : Disk) (t u : Tape) (at : ℕ) (bytes : List ℕ) → at ≤ length t.disk.pages.bytes → Grows free d t.disk → AreFree free at (length bytes) → Plays (Writes Pages at bytes) true t u → Grows free d u.disk
write_grows free d t u at bytes there grows within plays = rw plays (torn_grows free d t.disk at (length bytes) (overwritten t.disk.pages.bytes at bytes) grows within (torn_overwritten t.disk.pages.bytes bytes at there))

pub on_ok : {T E : Type 0} (r : Result T E) (Q : Type 0) → (is_ok r ≡ true → Q) → OnOk r Q
on_ok (Ok x) Q h = h refl
on_ok (Err e) Q h = tt
