-- Where the text of a line may be cut.
use Rattle.std.proofs.Common.{◌≡◌, ◌<◌, ◌≤◌, ◌+◌, ◌⊎◌, ℕ, suc, Bool, true, false, not, ◌||◌, ◌==◌, cond, List, [], ◌∷◌, ◌++◌, length, take, drop, get_or, refl, sym, ◌∙◌, ap, subst, inl, inr, arith, rules, append_assoc, drop-cons}
use Rattle.std.specs.List.{position_or_len}
use Rattle.std.specs.Str.{IsUtf8, IsCharBoundary, IsAscii}
use Rattle.std.proofs.lemmas.Bool.{eqb-true}
use Rattle.std.proofs.lemmas.Str.{IsUtf8-append, IsUtf8-take, IsUtf8-drop, IsUtf8-from_ascii, IsCharBoundary-end, IsCharBoundary-before_ascii, IsCharBoundary-after_ascii, IsCharBoundary-from_drop}
use Rattle.ov_model.specs.Words.{Next, NoWord, Word, Unclosed, is_blank, is_no_blank, quoted}

on_bool : (t : Bool) (P : Bool → Type 0) → (t ≡ true → P true) → (t ≡ false → P false) → P t
on_bool true P a b = a refl
on_bool false P a b = b refl

tail : (b : ℕ) (bs : List ℕ) → b < 128 → IsUtf8 (b ∷ bs) → IsUtf8 bs
tail b bs small text = IsUtf8-drop (b ∷ bs) 1 text (IsCharBoundary-after_ascii (b ∷ bs) 0 text (omega arith) small)

small_blank : (b : ℕ) → is_blank b ≡ true → b < 128
small_blank b e = grind arith

first_not_over : (p : ℕ → Bool) (bs : List ℕ) → position_or_len p bs ≤ length bs
first_not_over p [] = omega arith
first_not_over p (b ∷ bs) =
    let ih : position_or_len p bs ≤ length bs = first_not_over p bs in
    on_bool (p b) (λ v. cond (not v) (1 + position_or_len p bs) 0 ≤ length (b ∷ bs)) (λ e. omega arith) (λ e. omega (arith, ih))

first_passes : (p : ℕ → Bool) (bs : List ℕ) → position_or_len p bs < length bs → p (get_or bs (position_or_len p bs) 0) ≡ true
first_passes p [] h = absurd (omega (arith, h))
first_passes p (b ∷ bs) h =
    on_bool (p b)
    (λ v. cond (not v) (1 + position_or_len p bs) 0 < length (b ∷ bs) → p (get_or (b ∷ bs) (cond (not v) (1 + position_or_len p bs) 0) 0) ≡ true)
    (λ e k. e)
    (λ e k. let next : 1 + position_or_len p bs ≡ suc (position_or_len p bs) = omega arith in
    rw next (first_passes p bs (omega (arith, k))))
    h

cases_within : (m n : ℕ) → m ≤ n → (m < n) ⊎ (m ≡ n)
cases_within m n h = grind arith

-- the first byte that passes a test of bytes of ASCII
pub at_first : (p : ℕ → Bool) → ((b : ℕ) → p b ≡ true → b < 128) → (bs : List ℕ) → IsCharBoundary bs (position_or_len p bs)
at_first p small bs =
    elim (cases_within (position_or_len p bs) (length bs) (first_not_over p bs)) [
      | inl before ↦ IsCharBoundary-before_ascii bs (position_or_len p bs) before (small _ (first_passes p bs before))
      | inr end ↦ rw end (IsCharBoundary-end bs)
    ]

pub at_blank : (bs : List ℕ) → IsCharBoundary bs (position_or_len is_blank bs)
at_blank bs = at_first is_blank small_blank bs

skipped : (bs : List ℕ) → IsUtf8 bs → IsUtf8 (drop (position_or_len is_no_blank bs) bs)
skipped [] text = text
skipped (b ∷ bs) text =
    on_bool (is_blank b) (λ v. IsUtf8 (drop (cond (not (not v)) (1 + position_or_len is_no_blank bs) 0) (b ∷ bs)))
    (λ e. let next : 1 + position_or_len is_no_blank bs ≡ suc (position_or_len is_no_blank bs) = omega arith in
    rw next (skipped bs (tail b bs (small_blank b e) text)))
    (λ e. text)

pub at_no_blank : (bs : List ℕ) → IsUtf8 bs → IsCharBoundary bs (position_or_len is_no_blank bs)
at_no_blank bs text = IsCharBoundary-from_drop bs (position_or_len is_no_blank bs) (first_not_over is_no_blank bs) (skipped bs text)

pub at_second : (bs : List ℕ) → IsUtf8 bs → 0 < length bs → get_or bs 0 0 ≡ 34 → IsCharBoundary bs 1
at_second bs text some e = IsCharBoundary-after_ascii bs 0 text some (omega arith)

pub behind_quote : (bs : List ℕ) (i : ℕ) → IsUtf8 bs → i < length bs → get_or bs i 0 ≡ 34 → IsCharBoundary bs (i + 1)
behind_quote bs i text within e = IsCharBoundary-after_ascii bs i text within (omega arith)

-- ---- quoted words

get_between : (xs : List ℕ) (b : ℕ) (ys : List ℕ) → get_or (xs ++ b ∷ ys) (length xs) 0 ≡ b
get_between [] b ys = refl
get_between (x ∷ xs) b ys = get_between xs b ys

take_before : (xs ys : List ℕ) → take (length xs) (xs ++ ys) ≡ xs
take_before [] ys = refl
take_before (x ∷ xs) ys = ap (λ rest. x ∷ rest) (take_before xs ys)

drop_behind : (xs ys : List ℕ) → drop (length xs) (xs ++ ys) ≡ ys
drop_behind [] ys = refl
drop_behind (x ∷ xs) ys = drop_behind xs ys

within : (xs : List ℕ) (b : ℕ) (ys : List ℕ) → length xs < length (xs ++ b ∷ ys)
within [] b ys = omega arith
within (x ∷ xs) b ys = let ih : length xs < length (xs ++ b ∷ ys) = within xs b ys in omega (arith, ih)

-- a text is cut at a byte of ASCII
front : (xs : List ℕ) (b : ℕ) (ys : List ℕ) → b < 128 → IsUtf8 (xs ++ b ∷ ys) → IsUtf8 xs
front xs b ys small text =
    subst IsUtf8 (take_before xs (b ∷ ys))
    (IsUtf8-take (xs ++ b ∷ ys) (length xs) text
    (IsCharBoundary-before_ascii (xs ++ b ∷ ys) (length xs) (within xs b ys) (rw (get_between xs b ys) small)))

back : (xs : List ℕ) (b : ℕ) (ys : List ℕ) → b < 128 → IsUtf8 (xs ++ b ∷ ys) → IsUtf8 ys
back xs b ys small text =
    tail b ys small
    (subst IsUtf8 (drop_behind xs (b ∷ ys))
    (IsUtf8-drop (xs ++ b ∷ ys) (length xs) text
    (IsCharBoundary-before_ascii (xs ++ b ∷ ys) (length xs) (within xs b ys) (rw (get_between xs b ys) small))))

abbrev IsSound : Bool → List ℕ → List ℕ → Type 0
IsSound true word text = IsUtf8 word × IsUtf8 text
IsSound false word text = IsUtf8 (word ++ text)

abbrev AreTexts : Next → Type 0
AreTexts NoWord = Unit {0}
AreTexts (Word word behind) = IsUtf8 word × IsUtf8 behind
AreTexts Unclosed = Unit {0}

backslash : IsAscii (92 ∷ [])
backslash = search rules

quoted_text : (escaped : Bool) (word text : List ℕ) → IsSound escaped word text → AreTexts (quoted escaped word text)
quoted_text true word [] sound = tt
quoted_text false word [] sound = tt
quoted_text false word (b ∷ text) sound =
    on_bool (b == 34) (λ v. AreTexts (cond v (Word word text) (cond (b == 92) (quoted true word text) (quoted false (word ++ b ∷ []) text))))
    (λ e. let small : b < 128 = let n : b ≡ 34 = eqb-true b 34 e in omega arith in (front word b text small sound, back word b text small sound))
    (λ e. on_bool (b == 92) (λ v. AreTexts (cond v (quoted true word text) (quoted false (word ++ b ∷ []) text)))
    (λ f. let small : b < 128 = let n : b ≡ 92 = eqb-true b 92 f in omega arith in
    quoted_text true word text (front word b text small sound, back word b text small sound))
    (λ f. quoted_text false (word ++ b ∷ []) text (rw append_assoc sound)))
quoted_text true word (b ∷ text) sound =
    on_bool (b == 34 || b == 92) (λ v. AreTexts (cond v (quoted false (word ++ b ∷ []) text) (quoted false (word ++ 92 ∷ b ∷ []) text)))
    (λ e. quoted_text false (word ++ b ∷ []) text (rw append_assoc (IsUtf8-append word (b ∷ text) sound.0 sound.1)))
    (λ e. quoted_text false (word ++ 92 ∷ b ∷ []) text
    (rw append_assoc (IsUtf8-append word (92 ∷ b ∷ text) sound.0 (IsUtf8-append (92 ∷ []) (b ∷ text) (IsUtf8-from_ascii (92 ∷ []) backslash) sound.1))))

-- what was read of a quoted word up to its end
pub word_text : (word behind text : List ℕ) → IsUtf8 text → Word word behind ≡ quoted false [] text → IsUtf8 word
word_text word behind text valid e = (subst AreTexts (sym e) (quoted_text false [] text valid)).0

-- the byte at i closes the quoted word that was read so far
pub closed_text : (word text : List ℕ) (escaped : Bool) (i : ℕ) → IsUtf8 text → escaped ≡ false → i < length text → get_or text i 0 ≡ 34 → quoted escaped word (drop i text) ≡ quoted false [] text → IsUtf8 word
closed_text word text escaped i valid e lt q read =
    let closes : Word word (drop (suc i) text) ≡ quoted escaped word (drop i text) = rw (e, drop-cons text i 0, q) refl in
    word_text word (drop (suc i) text) text valid (closes ∙ read)
