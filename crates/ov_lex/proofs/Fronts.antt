-- The longest front of each kind.
use Rattle.std.proofs.Common.{◌≡◌, ◌⊎◌, inl, inr, ℕ, zero, suc, ◌+◌, ◌<◌, ◌≤◌, Bool, true, false, not, ◌==◌, List, [], ◌∷◌, ◌++◌, length, take, drop, get_or, Option, Some, None, refl, sym, ap, subst, ◌∙◌, append_assoc, arith}
use Rattle.std.specs.List.{list_all, flat_map, prefix_len, position_or_len}
use Rattle.std.specs.Option.{option_map, unwrap_or}
use Rattle.std.specs.Char.{is_ascii_digit}
use Rattle.std.proofs.lemmas.Bool.{cases_Bool, and_parts, and_from, both_ways, eqb-true}
use Rattle.std.proofs.lemmas.List.{take-append-drop, take_more, length-append, length-take-le}
use Rattle.std.proofs.lemmas.List.Sums.{prefix_len-le-length, passes_at_first}
use Rattle.ov_lex.specs.declared.token.TokenKind.TheVariants.{Word, Quoted, Number, Text, Sign}
use Rattle.ov_lex.specs.Spellings.{begins_word, continues_word, IsWord, IsQuoted, is_double_quote, digits_of, IsNumber, escaped, IsText, is_short_sign, is_long_sign, IsSign}
use Rattle.ov_lex.specs.Scans.{IsLongest, HasNone}
use Rattle.ov_lex.specs.Scans.{closing}

-- ---- fronts that pass a test

pub take_one : (n x : ℕ) (xs : List ℕ) → take (1 + n) (x ∷ xs) ≡ x ∷ take n xs
take_one n x xs = let e : 1 + n ≡ suc n = omega arith in rw e refl

pub front_passes : (p : ℕ → Bool) (xs : List ℕ) → list_all p (take (prefix_len p xs) xs) ≡ true
front_passes p [] = refl
front_passes p (x ∷ xs) = elim (cases_Bool (p x)) [
  | inl e ↦ rw e (rw take_one (and_from (p x) _ e (front_passes p xs)))
  | inr e ↦ rw e refl
]

pub passes-le : (p : ℕ → Bool) (xs : List ℕ) (m : ℕ) → m ≤ length xs → list_all p (take m xs) ≡ true → m ≤ prefix_len p xs
passes-le p xs zero h t = omega arith
passes-le p [] (suc m) h t = h
passes-le p (x ∷ xs) (suc m) h t =
    let parts = and_parts (p x) (list_all p (take m xs)) t in
    let more : m ≤ prefix_len p xs = passes-le p xs m (omega arith) parts.1 in
    rw parts.0 (omega arith)

-- ---- words

no_word : (m : ℕ) → IsWord (take m []) → ⊥
no_word zero s = s
no_word (suc m) s = s

pub word_none_empty : HasNone Word []
word_none_empty m h s = no_word m s

word-le : (b : ℕ) (bs : List ℕ) (m : ℕ) → m ≤ length (b ∷ bs) → IsWord (take m (b ∷ bs)) → m ≤ 1 + prefix_len continues_word bs
word-le b bs zero h s = omega arith
word-le b bs (suc m) h s = let more : m ≤ prefix_len continues_word bs = passes-le continues_word bs m (omega arith) s.1 in omega arith

pub word_longest : (b : ℕ) (bs : List ℕ) → begins_word b ≡ true → IsLongest Word (b ∷ bs) (1 + prefix_len continues_word bs)
word_longest b bs e = record {
  within = omega (arith, prefix_len-le-length continues_word bs);
  spelled = rw take_one (e, front_passes continues_word bs);
  longest = word-le b bs;
}

pub word_none : (b : ℕ) (bs : List ℕ) → begins_word b ≡ false → HasNone Word (b ∷ bs)
word_none b bs e zero h s = s
word_none b bs e (suc m) h s = both_ways (begins_word b) e s.0

-- ---- quoted names

abbrev plain : ℕ → Bool
plain b = not (is_double_quote b)

one_close : (name more : List ℕ) → list_all plain name ≡ true → position_or_len is_double_quote (name ++ 34 ∷ more) ≡ length name
one_close [] more t = refl
one_close (x ∷ xs) more t =
    let parts = and_parts (plain x) (list_all plain xs) t in
    let more_is = one_close xs more parts.1 in
    rw parts.0 (omega arith)

-- a quoted name that stands in front tells where the first double quote behind its first one is
record IsClosed (b : ℕ) (bs : List ℕ) (m : ℕ) : Type 0 where
  quote : b ≡ 34
  len : m ≡ position_or_len is_double_quote bs + 2
  some : 0 < position_or_len is_double_quote bs
  before_end : position_or_len is_double_quote bs < length bs

is_closed : (b : ℕ) (bs : List ℕ) (m : ℕ) → m ≤ length (b ∷ bs) → IsQuoted (take m (b ∷ bs)) → IsClosed b bs m
is_closed b bs zero h q = absurd (omega (arith, ap length q.between))
is_closed b bs (suc m) h q =
    let front : take m bs ≡ q.name ++ 34 ∷ [] = cc (q.between) in
    let whole : bs ≡ q.name ++ 34 ∷ drop m bs = sym (take-append-drop m bs) ∙ (ap (λ (xs : List ℕ). xs ++ drop m bs) front ∙ append_assoc q.name (34 ∷ []) (drop m bs)) in
    let place : position_or_len is_double_quote bs ≡ length q.name = subst (λ (xs : List ℕ). position_or_len is_double_quote xs ≡ length q.name) (sym whole) (one_close q.name (drop m bs) q.without_quotes) in
    let len : m ≡ length q.name + 1 = sym (length-take-le m bs (omega arith)) ∙ (ap length front ∙ length-append q.name (34 ∷ [])) in
    let some : 0 < length q.name = q.some in
    record { quote = cc (q.between); len = omega arith; some = omega arith; before_end = omega arith }

pub quoted_none_empty : HasNone Quoted []
quoted_none_empty zero h q = omega (arith, ap length q.between)
quoted_none_empty (suc m) h q = omega (arith, ap length q.between)

pub quoted_none : (b : ℕ) (bs : List ℕ) → (b ≡ 34 → 0 < position_or_len is_double_quote bs → position_or_len is_double_quote bs < length bs → ⊥) → HasNone Quoted (b ∷ bs)
quoted_none b bs never m h q = let closed = is_closed b bs m h q in never closed.quote closed.some closed.before_end

pub quoted_longest : (bs : List ℕ) → 0 < position_or_len is_double_quote bs → position_or_len is_double_quote bs < length bs → IsLongest Quoted (34 ∷ bs) (position_or_len is_double_quote bs + 2)
quoted_longest bs some before_end =
    let n = position_or_len is_double_quote bs in
    let two : n + 2 ≡ 1 + (n + 1) = omega arith in
    let close : get_or bs n 0 ≡ 34 = eqb-true (get_or bs n 0) 34 (passes_at_first is_double_quote bs 0 before_end) in
    let between : take (n + 2) (34 ∷ bs) ≡ 34 ∷ (take n bs ++ 34 ∷ []) =
    rw two (take_one (n + 1) 34 bs ∙ ap (λ (xs : List ℕ). 34 ∷ xs) (take_more bs n 0 before_end ∙ ap (λ (b : ℕ). take n bs ++ b ∷ []) close)) in
    record {
      within = omega arith;
      spelled = record { name = take n bs; between = between; some = omega (arith, length-take-le n bs (omega arith)); without_quotes = front_passes plain bs };
      longest = λ m h q. let closed = is_closed 34 bs m h q in omega (arith, closed.len);
    }

-- ---- numbers

pub number_none_empty : HasNone Number []
number_none_empty zero h s = omega (arith, s.some)
number_none_empty (suc m) h s = omega (arith, s.some)

signed-le : (bs : List ℕ) (m : ℕ) → m ≤ length (45 ∷ bs) → IsNumber (take m (45 ∷ bs)) → (m ≤ 1 + prefix_len is_ascii_digit bs) × (0 < prefix_len is_ascii_digit bs)
signed-le bs zero h s = absurd (omega (arith, s.some))
signed-le bs (suc m) h s =
    let more : m ≤ prefix_len is_ascii_digit bs = passes-le is_ascii_digit bs m (omega arith) s.digits in
    let some : 0 < length (take m bs) = s.some in
    (omega arith, omega (arith, length-take-le m bs (omega arith)))

pub signed_longest : (bs : List ℕ) → 0 < prefix_len is_ascii_digit bs → IsLongest Number (45 ∷ bs) (1 + prefix_len is_ascii_digit bs)
signed_longest bs some =
    let le = prefix_len-le-length is_ascii_digit bs in
    record {
      within = omega arith;
      spelled = rw take_one (record { some = omega (arith, length-take-le (prefix_len is_ascii_digit bs) bs le); digits = front_passes is_ascii_digit bs });
      longest = λ m h s. (signed-le bs m h s).0;
    }

pub signed_none : (bs : List ℕ) → prefix_len is_ascii_digit bs ≡ 0 → HasNone Number (45 ∷ bs)
signed_none bs none m h s = omega (arith, (signed-le bs m h s).1)

unsigned-le : (b : ℕ) (bs : List ℕ) (m : ℕ) → (b == 45) ≡ false → m ≤ length (b ∷ bs) → IsNumber (take m (b ∷ bs)) → (m ≤ prefix_len is_ascii_digit (b ∷ bs)) × (0 < prefix_len is_ascii_digit (b ∷ bs))
unsigned-le b bs zero other h s = absurd (omega (arith, s.some))
unsigned-le b bs (suc m) other h s =
    let digits : list_all is_ascii_digit (take (suc m) (b ∷ bs)) ≡ true = rw other at s.digits in
    let more : suc m ≤ prefix_len is_ascii_digit (b ∷ bs) = passes-le is_ascii_digit (b ∷ bs) (suc m) h digits in
    (more, omega arith)

digits_of-unsigned : (b : ℕ) (bs : List ℕ) (m : ℕ) → (b == 45) ≡ false → digits_of (take m (b ∷ bs)) ≡ take m (b ∷ bs)
digits_of-unsigned b bs zero other = refl
digits_of-unsigned b bs (suc m) other = rw other refl

pub unsigned_longest : (b : ℕ) (bs : List ℕ) → (b == 45) ≡ false → 0 < prefix_len is_ascii_digit (b ∷ bs) → IsLongest Number (b ∷ bs) (prefix_len is_ascii_digit (b ∷ bs))
unsigned_longest b bs other some =
    let n = prefix_len is_ascii_digit (b ∷ bs) in
    let le = prefix_len-le-length is_ascii_digit (b ∷ bs) in
    let same = digits_of-unsigned b bs n other in
    record {
      within = le;
      spelled = record { some = subst (λ (xs : List ℕ). 0 < length xs) (sym same) (omega (arith, length-take-le n (b ∷ bs) le)); digits = subst (λ (xs : List ℕ). list_all is_ascii_digit xs ≡ true) (sym same) (front_passes is_ascii_digit (b ∷ bs)) };
      longest = λ m h s. (unsigned-le b bs m other h s).0;
    }

pub unsigned_none : (b : ℕ) (bs : List ℕ) → (b == 45) ≡ false → prefix_len is_ascii_digit (b ∷ bs) ≡ 0 → HasNone Number (b ∷ bs)
unsigned_none b bs other none m h s = omega (arith, (unsigned-le b bs m other h s).1)

-- ---- texts

-- so many bytes at the front end a text, behind its first quote
pub record Closes (bytes : List ℕ) (n : ℕ) : Type 0 where
  pub text : List ℕ
  pub within : n ≤ length bytes
  pub closed : take n bytes ≡ flat_map escaped text ++ 39 ∷ []

closes_one : (bytes : List ℕ) → Closes (39 ∷ bytes) 1
closes_one bytes = record { text = []; within = omega arith; closed = refl }

closes_pair : (bytes : List ℕ) (n : ℕ) → Closes bytes n → Closes (39 ∷ 39 ∷ bytes) (2 + n)
closes_pair bytes n h =
    let two : 2 + n ≡ 1 + (1 + n) = omega arith in
    record {
      text = 39 ∷ h.text;
      within = omega (arith, h.within);
      closed = rw two (take_one (1 + n) 39 (39 ∷ bytes) ∙ ap (λ (xs : List ℕ). 39 ∷ xs) (take_one n 39 bytes ∙ ap (λ (xs : List ℕ). 39 ∷ xs) h.closed));
    }

closes_other : (b : ℕ) (bytes : List ℕ) (n : ℕ) → (b == 39) ≡ false → Closes bytes n → Closes (b ∷ bytes) (1 + n)
closes_other b bytes n e h = record {
  text = b ∷ h.text;
  within = omega (arith, h.within);
  closed = take_one n b bytes ∙ rw e (ap (λ (xs : List ℕ). b ∷ xs) h.closed);
}

-- what a scan found closes a text
abbrev AllClose : List ℕ → Option ℕ → Type 0
AllClose bytes None = Unit {0}
AllClose bytes (Some n) = Closes bytes n

all_close_pair : (bytes : List ℕ) (found : Option ℕ) → AllClose bytes found → Closes (39 ∷ 39 ∷ bytes) (unwrap_or (option_map (λ n. 2 + n) found) 1)
all_close_pair bytes None h = closes_one (39 ∷ bytes)
all_close_pair bytes (Some n) h = closes_pair bytes n h

all_close_other : (b : ℕ) (bytes : List ℕ) (found : Option ℕ) → (b == 39) ≡ false → AllClose bytes found → AllClose (b ∷ bytes) (option_map (λ n. 1 + n) found)
all_close_other b bytes None e h = tt
all_close_other b bytes (Some n) e h = closes_other b bytes n e h

closing_closes : (bytes : List ℕ) → AllClose bytes (closing bytes)
unfolding closing
closing_closes [] = tt
closing_closes (b ∷ []) = elim (cases_Bool (b == 39)) [
  | inl e ↦ rw e (rw (eqb-true b 39 e) (closes_one []))
  | inr e ↦ rw e tt
]
closing_closes (b ∷ c ∷ bytes) = elim (cases_Bool (b == 39)) [
  | inl e ↦ elim (cases_Bool (c == 39)) [
    | inl f ↦ rw (e, f) (rw (eqb-true b 39 e, eqb-true c 39 f) (all_close_pair bytes (closing bytes) (closing_closes bytes)))
    | inr f ↦ rw (e, f) (rw (eqb-true b 39 e) (closes_one (c ∷ bytes)))
  ]
  | inr e ↦ rw e (all_close_other b (c ∷ bytes) (closing (c ∷ bytes)) e (closing_closes (c ∷ bytes)))
]

-- no text ends later
abbrev pub Reaches : ℕ → Option ℕ → Type 0
Reaches n None = ⊥
Reaches n (Some m) = n ≤ m

reaches_pair : (n : ℕ) (found : Option ℕ) → Reaches n found → 2 + n ≤ unwrap_or (option_map (λ m. 2 + m) found) 1
reaches_pair n None h = absurd h
reaches_pair n (Some m) h = omega arith

reaches_other : (n : ℕ) (found : Option ℕ) → Reaches n found → Reaches (1 + n) (option_map (λ m. 1 + m) found)
reaches_other n None h = absurd h
reaches_other n (Some m) h = omega arith

one-le : (found : Option ℕ) → 1 ≤ unwrap_or (option_map (λ m. 2 + m) found) 1
one-le None = omega arith
one-le (Some m) = omega arith

ends_here : (more : List ℕ) → Reaches 1 (closing (39 ∷ more))
unfolding closing
ends_here [] = omega arith
ends_here (c ∷ more) = elim (cases_Bool (c == 39)) [
  | inl f ↦ rw f (one-le (closing more))
  | inr f ↦ rw f (omega arith)
]

pub closing_other : (b : ℕ) (bytes : List ℕ) → (b == 39) ≡ false → closing (b ∷ bytes) ≡ option_map (λ n. 1 + n) (closing bytes)
unfolding closing
closing_other b [] e = rw e refl
closing_other b (c ∷ bytes) e = rw e refl

pub closing_pair : (bytes : List ℕ) → closing (39 ∷ 39 ∷ bytes) ≡ Some (unwrap_or (option_map (λ n. 2 + n) (closing bytes)) 1)
unfolding closing
closing_pair bytes = refl

all_reached : (text more : List ℕ) → Reaches (length (flat_map escaped text) + 1) (closing (flat_map escaped text ++ 39 ∷ more))
all_reached [] more = ends_here more
all_reached (b ∷ text) more = elim (cases_Bool (b == 39)) [
  | inl e ↦ rw (e, closing_pair (flat_map escaped text ++ 39 ∷ more)) (
      let le = reaches_pair (length (flat_map escaped text) + 1) (closing (flat_map escaped text ++ 39 ∷ more)) (all_reached text more) in omega arith)
  | inr e ↦ rw (e, closing_other b (flat_map escaped text ++ 39 ∷ more) e) (
      let n : suc (length (flat_map escaped text)) + 1 ≡ 1 + (length (flat_map escaped text) + 1) = omega arith in
      rw n (reaches_other (length (flat_map escaped text) + 1) (closing (flat_map escaped text ++ 39 ∷ more)) (all_reached text more)))
]

-- a text that stands in front: the scan behind its first quote reaches its end
pub record IsShut (b : ℕ) (bs : List ℕ) (m : ℕ) : Type 0 where
  pub quote : b ≡ 39
  pub before : ℕ
  pub len : m ≡ 1 + before
  pub reached : Reaches before (closing bs)

pub is_shut : (b : ℕ) (bs : List ℕ) (m : ℕ) → m ≤ length (b ∷ bs) → IsText (take m (b ∷ bs)) → IsShut b bs m
is_shut b bs zero h t = absurd (omega (arith, ap length t.spelled))
is_shut b bs (suc m) h t =
    let front : take m bs ≡ flat_map escaped t.text ++ 39 ∷ [] = cc (t.spelled) in
    let whole : bs ≡ flat_map escaped t.text ++ 39 ∷ drop m bs = sym (take-append-drop m bs) ∙ (ap (λ (xs : List ℕ). xs ++ drop m bs) front ∙ append_assoc (flat_map escaped t.text) (39 ∷ []) (drop m bs)) in
    let len : m ≡ length (flat_map escaped t.text) + 1 = sym (length-take-le m bs (omega arith)) ∙ (ap length front ∙ length-append (flat_map escaped t.text) (39 ∷ [])) in
    let reached : Reaches m (closing bs) = rw len (subst (λ (xs : List ℕ). Reaches (length (flat_map escaped t.text) + 1) (closing xs)) (sym whole) (all_reached t.text (drop m bs))) in
    record { quote = cc (t.spelled); before = m; len = omega arith; reached = reached }

pub text_none_empty : HasNone Text []
text_none_empty zero h t = omega (arith, ap length t.spelled)
text_none_empty (suc m) h t = omega (arith, ap length t.spelled)

pub text_none_first : (b : ℕ) (bs : List ℕ) → (b ≡ 39 → ⊥) → HasNone Text (b ∷ bs)
text_none_first b bs other m h t = other (is_shut b bs m h t).quote

pub text_none : (b : ℕ) (bs : List ℕ) → closing bs ≡ None → HasNone Text (b ∷ bs)
text_none b bs none m h t = let shut = is_shut b bs m h t in let r : Reaches shut.before None = subst (Reaches shut.before) none shut.reached in r

pub closing_is : (bs : List ℕ) (n : ℕ) → closing bs ≡ Some n → Closes bs n
closing_is bs n found = subst (AllClose bs) found (closing_closes bs)

pub text_longest : (bs : List ℕ) (n : ℕ) → closing bs ≡ Some n → IsLongest Text (39 ∷ bs) (1 + n)
text_longest bs n found =
    let closes = closing_is bs n found in
    record {
      within = omega (arith, closes.within);
      spelled = record { text = closes.text; spelled = take_one n 39 bs ∙ ap (λ (xs : List ℕ). 39 ∷ xs) closes.closed };
      longest = λ m h t. let shut = is_shut 39 bs m h t in let le : shut.before ≤ n = subst (Reaches shut.before) found shut.reached in omega (arith, shut.len);
    }

-- ---- signs

pub sign_none_empty : HasNone Sign []
sign_none_empty zero h s = s
sign_none_empty (suc m) h s = s

sign-le : (b c : ℕ) (bs : List ℕ) (m : ℕ) → m ≤ length (b ∷ c ∷ bs) → IsSign (take m (b ∷ c ∷ bs)) → ((m ≡ 1) × (is_short_sign b ≡ true)) ⊎ ((m ≡ 2) × (is_long_sign b c ≡ true))
sign-le b c bs zero h s = absurd s
sign-le b c bs (suc zero) h s = inl (refl, s)
sign-le b c bs (suc (suc zero)) h s = inr (refl, s)
sign-le b c [] (suc (suc (suc m))) h s = absurd (omega arith)
sign-le b c (d ∷ bs) (suc (suc (suc m))) h s = absurd s

pub sign_longest_two : (b c : ℕ) (bs : List ℕ) → is_long_sign b c ≡ true → IsLongest Sign (b ∷ c ∷ bs) 2
sign_longest_two b c bs e = record {
  within = omega arith;
  spelled = e;
  longest = λ m h s. elim (sign-le b c bs m h s) [ inl one ↦ omega (arith, one.0) | inr two ↦ omega (arith, two.0) ];
}

pub sign_longest_one : (b c : ℕ) (bs : List ℕ) → is_long_sign b c ≡ false → is_short_sign b ≡ true → IsLongest Sign (b ∷ c ∷ bs) 1
sign_longest_one b c bs other e = record {
  within = omega arith;
  spelled = e;
  longest = λ m h s. elim (sign-le b c bs m h s) [ inl one ↦ omega (arith, one.0) | inr two ↦ absurd (both_ways (is_long_sign b c) other two.1) ];
}

pub sign_none : (b c : ℕ) (bs : List ℕ) → is_long_sign b c ≡ false → is_short_sign b ≡ false → HasNone Sign (b ∷ c ∷ bs)
sign_none b c bs long short m h s = elim (sign-le b c bs m h s) [ inl one ↦ both_ways (is_short_sign b) short one.1 | inr two ↦ both_ways (is_long_sign b c) long two.1 ]

sign-single : (b : ℕ) (m : ℕ) → m ≤ 1 → IsSign (take m (b ∷ [])) → (m ≡ 1) × (is_short_sign b ≡ true)
sign-single b zero h s = absurd s
sign-single b (suc zero) h s = (refl, s)
sign-single b (suc (suc m)) h s = absurd (omega arith)

pub sign_longest_single : (b : ℕ) → is_short_sign b ≡ true → IsLongest Sign (b ∷ []) 1
sign_longest_single b e = record { within = omega arith; spelled = e; longest = λ m h s. h }

pub sign_none_single : (b : ℕ) → is_short_sign b ≡ false → HasNone Sign (b ∷ [])
sign_none_single b e m h s = both_ways (is_short_sign b) e (sign-single b m h s).1
