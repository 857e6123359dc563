-- Which places are doubtful.
use Rattle.std.proofs.Common.{◌+◌, ◌%◌, cond, length, get_or, add-one, below_more, take, ◌≡◌, ◌<◌, ◌≤◌, ◌⊎◌, inl, inr, refl, sym, ◌∙◌, ap, ℕ, Bool, true, false, ◌&&◌, ◌||◌, nat_le, nat_lt, List, [], ◌∷◌, ◌++◌, reverse, arith}
use Rattle.std.proofs.Math.Bool.{or_assoc, or_comm}
use Rattle.std.proofs.lemmas.Bool.{cases_lt}
use Rattle.std.proofs.lemmas.Bool.Decides.{nat_tests}
use Rattle.std.proofs.lemmas.List.{reverse-append, take_more, take_all, get_or_at, get_or_append_left}
use Rattle.std.proofs.Math.Nat.{mod-add-mod}
use Rattle.ov_host.specs.Disk.{Stored}
use Rattle.ov_memhost.specs.Picked.{is_written, is_doubtful, doubts_below, byte_left}

-- a flag that was raised in a range alone
pub flag_by : (from end p : ℕ) (old new : Bool) → (from ≤ p → p < end → new ≡ true) → ((p < from) ⊎ (end ≤ p) → new ≡ old) → new ≡ (old || (nat_le from p && nat_lt p end))
flag_by from end p old new inside others =
    elim (cases_lt p from) [
      | inl before ↦ let same = others (inl before) in grind (arith, nat_tests)
      | inr there ↦ elim (cases_lt p end) [
        | inl within ↦ let raised = inside there within in grind (arith, nat_tests)
        | inr after ↦ let same = others (inr after) in grind (arith, nat_tests)
      ]
    ]

pub is_written-push : (rs : List (ℕ × ℕ)) (r : ℕ × ℕ) (p : ℕ) → is_written (rs ++ r ∷ []) p ≡ (is_written rs p || (nat_le r.0 p && nat_lt p r.1))
is_written-push [] r p = or_comm (nat_le r.0 p && nat_lt p r.1) false
is_written-push (s ∷ rs) r p =
    ap (λ b. (nat_le s.0 p && nat_lt p s.1) || b) (is_written-push rs r p)
    ∙ sym (or_assoc (nat_le s.0 p && nat_lt p s.1) (is_written rs p) (nat_le r.0 p && nat_lt p r.1))

-- the order of the ranges doesn't matter
pub is_written-reverse : (rs : List (ℕ × ℕ)) (p : ℕ) → is_written (reverse rs) p ≡ is_written rs p
is_written-reverse [] p = refl
is_written-reverse (r ∷ rs) p =
    ap (λ s. is_written s p) (reverse-append (r ∷ []) rs)
    ∙ is_written-push (reverse rs) r p
    ∙ ap (λ b. b || (nat_le r.0 p && nat_lt p r.1)) (is_written-reverse rs p)
    ∙ or_comm (is_written rs p) (nat_le r.0 p && nat_lt p r.1)

-- the flags from the synced length on, raised first
pub flag_first : (synced p : ℕ) (old new : Bool) → old ≡ false → (synced ≤ p → new ≡ true) → (p < synced → new ≡ old) → new ≡ (nat_le synced p || false)
flag_first synced p old new low inside others =
    elim (cases_lt p synced) [
      | inl before ↦ let same = others before in grind (arith, nat_tests)
      | inr there ↦ let raised = inside there in grind (arith, nat_tests)
    ]

-- the flags of one more range
pub flag_more : (synced p i : ℕ) (ranges same : List (ℕ × ℕ)) (flag : Bool) → same ≡ ranges → i < length same → flag ≡ (nat_le synced p || is_written (take i ranges) p) → (flag || (nat_le (get_or same i (0, 0)).0 p && nat_lt p (get_or same i (0, 0)).1)) ≡ (nat_le synced p || is_written (take (i + 1) ranges) p)
flag_more synced p i ranges same flag is there so_far =
    let range : ℕ × ℕ = get_or same i (0, 0)
    in let more : take (i + 1) ranges ≡ take i ranges ++ get_or same i (0, 0) ∷ [] =
    ap (take (i + 1)) (sym is) ∙ take_more same i (0, 0) there ∙ ap (λ xs. take i xs ++ get_or same i (0, 0) ∷ []) is
    in ap (λ b. b || (nat_le range.0 p && nat_lt p range.1)) so_far
    ∙ or_assoc (nat_le synced p) (is_written (take i ranges) p) (nat_le range.0 p && nat_lt p range.1)
    ∙ ap (λ b. nat_le synced p || b) (sym (ap (λ rs. is_written rs p) more ∙ is_written-push (take i ranges) range p))

-- the flags of all ranges
pub flag_all : (a : Stored) (p i : ℕ) (ranges : List (ℕ × ℕ)) (flag : Bool) → a.written ≡ reverse ranges → length ranges ≤ i → flag ≡ (nat_le a.synced p || is_written (take i ranges) p) → flag ≡ is_doubtful a p
flag_all a p i ranges flag is all so_far =
    so_far
    ∙ ap (λ rs. nat_le a.synced p || is_written rs p) (take_all i ranges all)
    ∙ ap (λ b. nat_le a.synced p || b) (sym (ap (λ rs. is_written rs p) is ∙ is_written-reverse ranges p))

-- one more doubtful place
pub doubts_more : (a : Stored) (p : ℕ) → doubts_below a (p + 1) ≡ doubts_below a p + cond (is_doubtful a p) 1 0
doubts_more a p = ap (doubts_below a) (add-one p)

-- the byte of one more place was added
pub bytes_more : (a : Stored) (start : ℕ) (pick : List ℕ) (place next : ℕ) (old new : List ℕ) (doubt : Bool) → length old ≡ place → next ≡ (start + doubts_below a place) % length pick → doubt ≡ is_doubtful a place → new ≡ old ++ cond doubt (get_or pick next 0) (get_or a.bytes place 0) ∷ [] → ((p : ℕ) → p < place → get_or old p 0 ≡ byte_left a start pick p) → (p : ℕ) → p < place + 1 → get_or new p 0 ≡ byte_left a start pick p
bytes_more a start pick place next old new doubt long at is grown so_far =
    below_more _ _
    (λ p below.
    ap (λ xs. get_or xs p 0) grown
    ∙ get_or_append_left old (cond doubt (get_or pick next 0) (get_or a.bytes place 0) ∷ []) 0 p (omega arith)
    ∙ so_far p below)
    (ap (λ xs. get_or xs place 0) grown
    ∙ get_or_at old (cond doubt (get_or pick next 0) (get_or a.bytes place 0)) [] 0 place long
    ∙ ap (λ b. cond b (get_or pick next 0) (get_or a.bytes place 0)) is
    ∙ ap (λ n. cond (is_doubtful a place) (get_or pick n 0) (get_or a.bytes place 0)) at)

next_by : (start place doubts after next m : ℕ) (doubt : Bool) → next ≡ (start + doubts) % m → after ≡ cond doubt ((next + 1) % m) next → after ≡ (start + (doubts + cond doubt 1 0)) % m
next_by start place doubts after next m true at becomes =
    becomes
    ∙ ap (λ n. (n + 1) % m) at
    ∙ mod-add-mod (start + doubts) m 1
    ∙ ap (λ n. n % m) (omega arith)
next_by start place doubts after next m false at becomes = becomes ∙ at ∙ ap (λ n. n % m) (omega arith)

pub next_more : (a : Stored) (start : ℕ) (pick : List ℕ) (place next after : ℕ) (doubt : Bool) → next ≡ (start + doubts_below a place) % length pick → doubt ≡ is_doubtful a place → after ≡ cond doubt ((next + 1) % length pick) next → after ≡ (start + doubts_below a (place + 1)) % length pick
next_more a start pick place next after doubt at is becomes =
    next_by start place (doubts_below a place) after next (length pick) doubt at becomes
    ∙ ap (λ b. (start + (doubts_below a place + cond b 1 0)) % length pick) is
    ∙ ap (λ n. (start + n) % length pick) (sym (doubts_more a place))
