-- What a torn write leaves: any bytes in its range, the same bytes elsewhere.
use Rattle.std.proofs.Common.{◌≡◌, ◌<◌, ◌≤◌, ◌⊎◌, inl, inr, ℕ, ◌+◌, ◌-◌, max, List, [], ◌∷◌, ◌++◌, length, take, drop, get_or, refl, sym, ◌∙◌, ap, arith}
use Rattle.std.proofs.lemmas.List.{append_assoc, get_or-take, get_or-drop, take_at, drop_at, length-take, length-drop, length-append}
use Rattle.std.proofs.lemmas.Bool.{cases_lt}
use Rattle.std.proofs.lemmas.Grind.{same_number_lists}
use Rattle.ov_host.specs.Disk.{Stored, Leaves, IsWritten, settled}
use Rattle.ov_host.specs.Tape.{Torn, marked, overwritten}

-- a place off the first range and off the others is not written
pub off_range : (at n p : ℕ) (rest : List (ℕ × ℕ)) → (p < at) ⊎ (at + n ≤ p) → (IsWritten rest p → ⊥) → IsWritten ((at, at + n) ∷ rest) p → ⊥
off_range at n p rest (inl before) off (inl w) = omega arith
off_range at n p rest (inr after) off (inl w) = omega arith
off_range at n p rest out off (inr w) = off w

-- a place that is not written is off the first range
pub is_off : (at n p : ℕ) (rest : List (ℕ × ℕ)) → (IsWritten ((at, at + n) ∷ rest) p → ⊥) → (p < at) ⊎ (at + n ≤ p)
is_off at n p rest off =
    elim (cases_lt p at) [
      | inl before ↦ inl before
      | inr from ↦ elim (cases_lt p (at + n)) [ inl within ↦ absurd (off (inl (from, within))) | inr after ↦ inr after ]
    ]

-- a byte before the range stays
pub same_before : (b b' : List ℕ) (at n p : ℕ) → Torn at n b b' → p < at → get_or b' p 0 ≡ get_or b p 0
same_before b b' at n p torn lt =
    sym (get_or-take at b' p 0 lt) ∙ ap (λ xs. get_or xs p 0) torn.before ∙ get_or-take at b p 0 lt

-- a byte after the range stays
pub same_after : (b b' : List ℕ) (at n p : ℕ) → Torn at n b b' → at + n ≤ p → get_or b' p 0 ≡ get_or b p 0
same_after b b' at n p torn le =
    let place : at + n + (p - (at + n)) ≡ p = omega arith
    in sym (ap (λ q. get_or b' q 0) place)
    ∙ sym (get_or-drop (at + n) b' (p - (at + n)) 0)
    ∙ ap (λ xs. get_or xs (p - (at + n)) 0) torn.after
    ∙ get_or-drop (at + n) b (p - (at + n)) 0
    ∙ ap (λ q. get_or b q 0) place

-- a byte off the range stays
pub same_off : (b b' : List ℕ) (at n p : ℕ) → Torn at n b b' → (p < at) ⊎ (at + n ≤ p) → get_or b' p 0 ≡ get_or b p 0
same_off b b' at n p torn (inl before) = same_before b b' at n p torn before
same_off b b' at n p torn (inr after) = same_after b b' at n p torn after

-- nothing happened yet
pub torn_same : (b : List ℕ) (at n : ℕ) → Torn at n b b
torn_same b at n = record { before = refl; after = refl; no_shorter = omega arith; no_longer = omega arith }

-- the whole write
pub torn_overwritten : (b x : List ℕ) (at : ℕ) → at ≤ length b → Torn at (length x) b (overwritten b at x)
torn_overwritten b x at within =
    let front : length (take at b) ≡ at = omega (arith, length-take at b)
    in let both : length (take at b ++ x) ≡ at + length x = omega (arith, front, length-append (take at b) x)
    in let all : length (overwritten b at x) ≡ at + length x + (length b - (at + length x)) =
    length-append (take at b ++ x) (drop (at + length x) b)
    ∙ omega (arith, both, length-drop (at + length x) b)
    in record {
      before =
          ap (take at) (append_assoc (take at b) x (drop (at + length x) b))
          ∙ take_at (take at b) (x ++ drop (at + length x) b) at front;
      after = drop_at (take at b ++ x) (drop (at + length x) b) (at + length x) both;
      no_shorter = omega (arith, all);
      no_longer = omega (arith, all);
    }

-- what is left where nothing is pending is what reads
pub settled_leaves : (b c : List ℕ) → Leaves (settled b) c → c ≡ b
settled_leaves b c left =
    let same : length c ≡ length b = omega (arith, left.no_shorter, left.no_longer)
    in same_number_lists c b same (λ k lt. left.same k (omega (arith, same)) (λ w. w))

-- what is left of a write that began where nothing was pending is a torn write
pub marked_leaves : (b c : List ℕ) (at n : ℕ) → at ≤ length b → Leaves (marked at n b (settled b)) c → Torn at n b c
marked_leaves b c at n within left =
    let low : length b ≤ length c = left.no_shorter
    in let high : length c ≤ max (length b) (at + n) = left.no_longer
    in record {
      before =
          same_number_lists (take at c) (take at b)
          (omega (arith, length-take at c, length-take at b))
          (λ k lt.
          let below : k < at = omega (arith, length-take at c)
          in get_or-take at c k 0 below
          ∙ left.same k (omega arith) (off_range at n k [] (inl below) (λ w. w))
          ∙ sym (get_or-take at b k 0 below));
      after =
          same_number_lists (drop (at + n) c) (drop (at + n) b)
          (omega (arith, length-drop (at + n) c, length-drop (at + n) b))
          (λ k lt.
          let there : at + n + k < length b = omega (arith, length-drop (at + n) c)
          in get_or-drop (at + n) c k 0
          ∙ left.same (at + n + k) there (off_range at n (at + n + k) [] (inr (omega arith)) (λ w. w))
          ∙ sym (get_or-drop (at + n) b k 0));
      no_shorter = low;
      no_longer = high;
    }

-- what the range reads while a write is pending doesn't matter
pub leaves_torn : (a : Stored) (at n : ℕ) (b b' c : List ℕ) → Torn at n b b' → Leaves (marked at n b' a) c → Leaves (marked at n b a) c
leaves_torn a at n b b' c torn left =
    record {
      no_shorter = left.no_shorter;
      no_longer = left.no_longer;
      same = λ p lt off. left.same p lt off ∙ same_off b b' at n p torn (is_off at n p a.written off);
    }

-- a range more that counts as written leaves what could be left before
pub leaves_more : (a : Stored) (at n : ℕ) (c : List ℕ) → Leaves a c → Leaves (marked at n a.bytes a) c
leaves_more a at n c left =
    record {
      no_shorter = left.no_shorter;
      no_longer = omega (arith, left.no_longer);
      same = λ p lt off. left.same p lt (λ w. off (inr w));
    }
