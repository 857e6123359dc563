-- The numbers of kept calls ascend, and are below the number of calls.
use Rattle.std.proofs.Common.{◌≡◌, ◌<◌, ◌≤◌, refl, ◌∙◌, ap, ℕ, ◌-◌, ◌^◌, true, cond, ◌==◌, nat_le, List, [], ◌∷◌, ◌++◌, arith}
use Rattle.std.proofs.lemmas.Bool.{leb-true, le-leb, and_parts, and_from, lt-ltb}
use Rattle.ov_host.specs.Tape.{Call, Tape, onto, done}
use Rattle.ov_memhost.specs.Counts.{next}
use Rattle.ov_memhost.specs.Kept.{Kept, is_numbered, replayed}
use Rattle.ov_memhost.specs.Stopped.{begun, stopped}

-- more calls that kept nothing
pub numbered_later : (low : ℕ) (ks : List Kept) (n m : ℕ) → is_numbered low ks n ≡ true → n ≤ m → is_numbered low ks m ≡ true
numbered_later low [] n m is later = le-leb low m (omega (arith, leb-true low n is))
numbered_later low (k ∷ ks) n m is later =
    let parts = and_parts (nat_le low k.number) (is_numbered (next k.number) ks n) is
    in and_from (nat_le low k.number) (is_numbered (next k.number) ks m) parts.0 (numbered_later (next k.number) ks n m parts.1 later)

-- a call was kept under the next number
pub numbered_push : (low : ℕ) (ks : List Kept) (number : ℕ) (call : Call) → is_numbered low ks number ≡ true → is_numbered low (ks ++ record { number = number; call = call } ∷ []) (next number) ≡ true
numbered_push low [] number call is = and_from (nat_le low number) (nat_le (next number) (next number)) is (le-leb (next number) (next number) (omega arith))
numbered_push low (k ∷ ks) number call is =
    let parts = and_parts (nat_le low k.number) (is_numbered (next k.number) ks number) is
    in and_from (nat_le low k.number) (is_numbered (next k.number) (ks ++ record { number = number; call = call } ∷ []) (next number)) parts.0
    (numbered_push (next k.number) ks number call parts.1)

pub numbered_more : (ks more : List Kept) (number calls : ℕ) (call : Call) → more ≡ ks ++ record { number = number; call = call } ∷ [] → is_numbered 0 ks number ≡ true → next number ≤ calls → is_numbered 0 more calls ≡ true
numbered_more ks more number calls call is before counted =
    ap (λ xs. is_numbered 0 xs calls) is
    ∙ numbered_later 0 (ks ++ record { number = number; call = call } ∷ []) (next number) calls (numbered_push 0 ks number call before) counted

numbered_low : (low : ℕ) (ks : List Kept) (n : ℕ) → n < 2 ^ 64 - 1 → is_numbered low ks n ≡ true → low ≤ n
numbered_low low [] n small is = leb-true low n is
numbered_low low (k ∷ ks) n small is =
    let parts = and_parts (nat_le low k.number) (is_numbered (next k.number) ks n) is
    in let first : low ≤ k.number = leb-true low k.number parts.0
    in let later : next k.number ≤ n = numbered_low (next k.number) ks n small parts.1
    in omega arith

-- a stop after the last call finds all of them done
pub stopped_last : (low : ℕ) (ks : List Kept) (n cut : ℕ) (t : Tape) → n < 2 ^ 64 - 1 → is_numbered low ks n ≡ true → stopped ks n cut t.disk ≡ (replayed ks t).disk
stopped_last low [] n cut t small is = refl
stopped_last low (k ∷ ks) n cut t small is =
    let parts = and_parts (nat_le low k.number) (is_numbered (next k.number) ks n) is
    in let later : next k.number ≤ n = numbered_low (next k.number) ks n small parts.1
    in let below : k.number < n = omega arith
    in ap (λ b. cond b (stopped ks n cut (done k.call t.disk)) (cond (k.number == n) (begun cut k.call t.disk) t.disk)) (lt-ltb k.number n below)
    ∙ stopped_last (next k.number) ks n cut (onto k.call (done k.call t.disk) t) small parts.1
