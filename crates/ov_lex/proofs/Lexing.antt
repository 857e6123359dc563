-- What is computed: the token that bytes begin with, and the tokens of a text or its first bad byte.
use Rattle.std.proofs.Common.{◌≡◌, ◌⊎◌, inl, inr, ℕ, zero, suc, ◌+◌, ◌-◌, ◌<◌, ◌≤◌, Bool, true, false, ◌==◌, nat_lt, List, [], ◌∷◌, length, take, drop, get_or, Option, Some, None, Result, Ok, Err, ℤ, pos, negsuc, FitsSigned, IsTrue, MatchOption, MatchResult, refl, sym, ap, subst, ◌∙◌, arith}
use Rattle.std.specs.Char.{is_ascii_digit}
use Rattle.std.specs.Int.{w64}
use Rattle.std.specs.List.{prefix_len, position_or_len}
use Rattle.std.specs.Option.{option_map}
use Rattle.std.proofs.lemmas.Bool.{cases_Bool, cases_lt, both_ways, eqb-true, ltb-true, lt-ltb}
use Rattle.std.proofs.lemmas.List.{drop_more, length-drop}
use Rattle.ov_lex.specs.declared.token.Token.{Token}
use Rattle.ov_lex.specs.declared.token.TokenKind.{TokenKind}
use Rattle.ov_lex.specs.declared.token.TokenKind.TheVariants.{Word, Quoted, Number, Text, Sign}
use Rattle.ov_lex.specs.Spellings.{begins_word, is_double_quote, number_of, is_short_sign, is_long_sign, IsInRange, Begins, BeginsNone}
use Rattle.ov_lex.specs.Scans.{IsLongest, HasNone, kind_by, closing}
use Rattle.ov_lex.specs.Texts.{is_blank, Blank, Stands, Run, AreTokens, IsBad}
use Rattle.ov_lex.specs.Lexing.{word_len, closed_len, quoted_len, some_digits, number_len, text_len, sign_len, front_len, is_64_bits, is_in_range, kept_front, first_token, with_token, tokens_by, tokens_from, tokens_of}
use Rattle.ov_lex.proofs.FirstBytes.{begins, begins_none, out_of_range}
use Rattle.ov_lex.proofs.Fronts.{word_none_empty, word_longest, word_none, quoted_none_empty, quoted_longest, quoted_none, number_none_empty, signed_longest, signed_none, unsigned_longest, unsigned_none, text_none_empty, text_longest, text_none, text_none_first, sign_none_empty, sign_longest_two, sign_longest_one, sign_none, sign_longest_single, sign_none_single}
use Rattle.ov_lex.proofs.Runs.{has_some}

-- ---- the longest front of a kind

abbrev IsFront : TokenKind → List ℕ → Option ℕ → Type 0
IsFront kind bytes found = MatchOption found (HasNone kind bytes) (IsLongest kind bytes)

word-len-is : (bytes : List ℕ) → IsFront Word bytes (word_len bytes)
word-len-is [] = word_none_empty
word-len-is (b ∷ bytes) = elim (cases_Bool (begins_word b)) [
  | inl e ↦ rw e (word_longest b bytes e)
  | inr e ↦ rw e (word_none b bytes e)
]

closed-is : (bytes : List ℕ) → IsFront Quoted (34 ∷ bytes) (closed_len (position_or_len is_double_quote bytes) (length bytes))
closed-is bytes = elim (cases_Bool (nat_lt 0 (position_or_len is_double_quote bytes))) [
  | inl e ↦ elim (cases_Bool (nat_lt (position_or_len is_double_quote bytes) (length bytes))) [
    | inl g ↦ rw (e, g) (quoted_longest bytes (ltb-true _ _ e) (ltb-true _ _ g))
    | inr g ↦ rw (e, g) (quoted_none 34 bytes (λ q low high. both_ways _ g (lt-ltb _ _ high)))
  ]
  | inr e ↦ rw e (quoted_none 34 bytes (λ q low high. both_ways _ e (lt-ltb _ _ low)))
]

quoted-len-is : (bytes : List ℕ) → IsFront Quoted bytes (quoted_len bytes)
quoted-len-is [] = quoted_none_empty
quoted-len-is (b ∷ bytes) = elim (cases_Bool (is_double_quote b)) [
  | inl e ↦ rw e (rw (eqb-true b 34 e) (closed-is bytes))
  | inr e ↦ rw e (quoted_none b bytes (λ q low high. both_ways (is_double_quote b) e (ap is_double_quote q)))
]

signed-by : (bytes : List ℕ) (n : ℕ) → n ≡ prefix_len is_ascii_digit bytes → IsFront Number (45 ∷ bytes) (option_map (λ m. 1 + m) (some_digits n))
signed-by bytes zero e = signed_none bytes (sym e)
signed-by bytes (suc n) e = subst (λ (k : ℕ). IsLongest Number (45 ∷ bytes) (1 + k)) (sym e) (signed_longest bytes (omega arith))

unsigned-by : (b : ℕ) (bytes : List ℕ) (n : ℕ) → (b == 45) ≡ false → n ≡ prefix_len is_ascii_digit (b ∷ bytes) → IsFront Number (b ∷ bytes) (some_digits n)
unsigned-by b bytes zero other e = unsigned_none b bytes other (sym e)
unsigned-by b bytes (suc n) other e = subst (IsLongest Number (b ∷ bytes)) (sym e) (unsigned_longest b bytes other (omega arith))

number-len-is : (bytes : List ℕ) → IsFront Number bytes (number_len bytes)
number-len-is [] = number_none_empty
number-len-is (b ∷ bytes) = elim (cases_Bool (b == 45)) [
  | inl e ↦ rw e (rw (eqb-true b 45 e) (signed-by bytes (prefix_len is_ascii_digit bytes) refl))
  | inr e ↦ rw e (unsigned-by b bytes (prefix_len is_ascii_digit (b ∷ bytes)) e refl)
]

text-by : (bytes : List ℕ) (found : Option ℕ) → closing bytes ≡ found → IsFront Text (39 ∷ bytes) (option_map (λ n. 1 + n) found)
text-by bytes None e = text_none 39 bytes e
text-by bytes (Some n) e = text_longest bytes n e

text-len-is : (bytes : List ℕ) → IsFront Text bytes (text_len bytes)
text-len-is [] = text_none_empty
text-len-is (b ∷ bytes) = elim (cases_Bool (b == 39)) [
  | inl e ↦ rw e (rw (eqb-true b 39 e) (text-by bytes (closing bytes) refl))
  | inr e ↦ rw e (text_none_first b bytes (λ q. both_ways (b == 39) e (ap (λ (c : ℕ). c == 39) q)))
]

sign-len-is : (bytes : List ℕ) → IsFront Sign bytes (sign_len bytes)
sign-len-is [] = sign_none_empty
sign-len-is (b ∷ []) = elim (cases_Bool (is_short_sign b)) [
  | inl e ↦ rw e (sign_longest_single b e)
  | inr e ↦ rw e (sign_none_single b e)
]
sign-len-is (b ∷ c ∷ bytes) = elim (cases_Bool (is_long_sign b c)) [
  | inl e ↦ rw e (sign_longest_two b c bytes e)
  | inr e ↦ elim (cases_Bool (is_short_sign b)) [
    | inl g ↦ rw (e, g) (sign_longest_one b c bytes e g)
    | inr g ↦ rw (e, g) (sign_none b c bytes e g)
  ]
]

front-len-is : (kind : TokenKind) (bytes : List ℕ) → IsFront kind bytes (front_len kind bytes)
front-len-is Word bytes = word-len-is bytes
front-len-is Quoted bytes = quoted-len-is bytes
front-len-is Number bytes = number-len-is bytes
front-len-is Text bytes = text-len-is bytes
front-len-is Sign bytes = sign-len-is bytes

-- ---- the token at a place

fits-from : (z : ℤ) → is_64_bits z ≡ true → FitsSigned w64 z
fits-from (pos n) e = record { sfits = ltb-true _ _ e }
fits-from (negsuc n) e = record { sfits = ltb-true _ _ e }

fits-to : (z : ℤ) → FitsSigned w64 z → is_64_bits z ≡ true
fits-to (pos n) h = lt-ltb _ _ h.sfits
fits-to (negsuc n) h = lt-ltb _ _ h.sfits

in-range-from : (kind : TokenKind) (bytes : List ℕ) → is_in_range kind bytes ≡ true → IsInRange kind bytes
in-range-from Word bytes e = tt
in-range-from Quoted bytes e = tt
in-range-from Number bytes e = fits-from (number_of bytes) e
in-range-from Text bytes e = tt
in-range-from Sign bytes e = tt

in-range-to : (kind : TokenKind) (bytes : List ℕ) → IsInRange kind bytes → is_in_range kind bytes ≡ true
in-range-to Word bytes h = refl
in-range-to Quoted bytes h = refl
in-range-to Number bytes h = fits-to (number_of bytes) h
in-range-to Text bytes h = refl
in-range-to Sign bytes h = refl

kept-either : (kind : TokenKind) (bytes : List ℕ) (n : ℕ)
    → ((kept_front kind bytes (Some n) ≡ Some (kind, n)) × IsInRange kind (take n bytes)) ⊎ ((kept_front kind bytes (Some n) ≡ None) × (IsInRange kind (take n bytes) → ⊥))
kept-either kind bytes n = elim (cases_Bool (is_in_range kind (take n bytes))) [
  | inl e ↦ inl (rw e refl, in-range-from kind (take n bytes) e)
  | inr e ↦ inr (rw e refl, λ r. both_ways _ e (in-range-to kind (take n bytes) r))
]

abbrev IsFirst : List ℕ → Option (TokenKind × ℕ) → Type 0
IsFirst bytes found = MatchOption found (BeginsNone bytes) (λ first. Begins bytes first.0 first.1)

kept-is : (b : ℕ) (bytes : List ℕ) (found : Option ℕ) → IsFront (kind_by b) (b ∷ bytes) found → IsFirst (b ∷ bytes) (kept_front (kind_by b) (b ∷ bytes) found)
kept-is b bytes None none = begins_none b bytes none
kept-is b bytes (Some n) longest = elim (kept-either (kind_by b) (b ∷ bytes) n) [
  | inl kept ↦ subst (IsFirst (b ∷ bytes)) (sym kept.0) (begins b bytes n longest kept.1)
  | inr kept ↦ subst (IsFirst (b ∷ bytes)) (sym kept.0) (out_of_range b bytes n longest kept.1)
]

first-is : (b : ℕ) (bytes : List ℕ) → IsFirst (b ∷ bytes) (first_token (b ∷ bytes))
first-is b bytes = kept-is b bytes (front_len (kind_by b) (b ∷ bytes)) (front-len-is (kind_by b) (b ∷ bytes))

-- ---- the tokens from a place on

record ReadsBad (text : List ℕ) (from at : ℕ) : Type 0 where
  before : List Token
  to : ℕ
  run : Run text from before to
  blank : Blank text to at
  within : at < length text
  no_blank : is_blank (get_or text at 0) ≡ false
  no_token : BeginsNone (drop at text)

-- behind a token that ends at `from`
abbrev Reads : List ℕ → ℕ → Result (List Token) ℕ → Type 0
Reads text from (Ok tokens) = (to : ℕ) × Run text from tokens to × Blank text to (length text)
Reads text from (Err at) = ReadsBad text from at

token-reads : (text : List ℕ) (from : ℕ) (token : Token) (read : Result (List Token) ℕ) → Blank text from token.at → Stands text token → Reads text token.end read → Reads text from (with_token token read)
token-reads text from token (Ok tokens) blank stands h = (h.0, (blank, stands, h.1), h.2)
token-reads text from token (Err at) blank stands h = record {
  before = token ∷ h.before;
  to = h.to;
  run = (blank, stands, h.run);
  blank = h.blank;
  within = h.within;
  no_blank = h.no_blank;
  no_token = h.no_token;
}

record Stood (text : List ℕ) (at b : ℕ) (bytes : List ℕ) : Type 0 where
  within : at < length text
  first : get_or text at 0 ≡ b
  rest : drop (at + 1) text ≡ bytes

stood : (text : List ℕ) (at b : ℕ) (bytes : List ℕ) → drop at text ≡ b ∷ bytes → Stood text at b bytes
stood text at b bytes e =
    let within : at < length text = omega (arith, ap length e, length-drop at text) in
    let more = drop_more text at 0 within in
    record { within = within; first = cc; rest = cc }

no_blanks : (text : List ℕ) (at : ℕ) → at ≤ length text → Blank text at at
no_blanks text at le = record { forward = omega arith; within = le; blanks = λ k low high. absurd (omega arith) }

blank-at : (text : List ℕ) (from at k : ℕ) → Blank text from at → is_blank (get_or text at 0) ≡ true → from ≤ k → k < at + 1 → IsTrue (is_blank (get_or text k 0))
blank-at text from at k blank here low high = elim (cases_lt k at) [
  | inl lt ↦ blank.blanks k low lt
  | inr le ↦ let same : at ≡ k = omega arith in subst (λ (i : ℕ). IsTrue (is_blank (get_or text i 0))) same here
]

one_blank : (text : List ℕ) (from at : ℕ) → at < length text → Blank text from at → is_blank (get_or text at 0) ≡ true → Blank text from (at + 1)
one_blank text from at lt blank here = record {
  forward = omega (arith, blank.forward);
  within = omega arith;
  blanks = λ k low high. blank-at text from at k blank here low high;
}

abbrev ReadsOn : List ℕ → List ℕ → Type 0
ReadsOn text bytes = (at left from : ℕ) → drop at text ≡ bytes → Blank text from (at + left) → Reads text from (tokens_from bytes at left)

reads-by : (text : List ℕ) (b : ℕ) (bytes : List ℕ) (at from : ℕ) → ReadsOn text bytes → drop at text ≡ b ∷ bytes → Blank text from at → (blank : Bool) → is_blank b ≡ blank → (first : Option (TokenKind × ℕ)) → IsFirst (b ∷ bytes) first
    → Reads text from (tokens_by (tokens_from bytes) at blank first)
reads-by text b bytes at from on e before true blank first is =
    let s = stood text at b bytes e in
    let more : Blank text from (at + 1) = one_blank text from at s.within before (ap is_blank s.first ∙ blank) in
    let same : at + 1 ≡ (at + 1) + 0 = omega arith in
    on (at + 1) 0 from s.rest (subst (Blank text from) same more)
reads-by text b bytes at from on e before false blank None none =
    let s = stood text at b bytes e in
    record {
      before = [];
      to = from;
      run = refl;
      blank = before;
      within = s.within;
      no_blank = ap is_blank s.first ∙ blank;
      no_token = subst BeginsNone (sym e) none;
    }
reads-by text b bytes at from on e before false blank (Some first) begun =
    let s = stood text at b bytes e in
    let token : Token = record { kind = first.0; at = at; end = at + first.1 } in
    let some = has_some first.0 (b ∷ bytes) first.1 begun in
    let within : at + first.1 ≤ length text = omega (arith, begun.within, ap length e, length-drop at text) in
    let len : first.1 ≡ (at + first.1) - at = omega arith in
    let there : Begins (drop at text) first.0 first.1 = subst (λ (xs : List ℕ). Begins xs first.0 first.1) (sym e) begun in
    let stands : Stands text token = record { forward = omega arith; longest = subst (λ (n : ℕ). Begins (drop at text) first.0 n) len there } in
    let next : at + first.1 ≡ (at + 1) + (first.1 - 1) = omega arith in
    token-reads text from token _ before stands (on (at + 1) (first.1 - 1) (at + first.1) s.rest (subst (Blank text (at + first.1)) next (no_blanks text (at + first.1) within)))

reads : (text bytes : List ℕ) → ReadsOn text bytes
reads text [] at left from e blank =
    let end : at + left ≡ length text = omega (arith, blank.within, ap length e, length-drop at text) in
    (from, refl, subst (Blank text from) end blank)
reads text (b ∷ bytes) at (suc left) from e blank =
    let s = stood text at b bytes e in
    let same : at + suc left ≡ (at + 1) + left = omega arith in
    reads text bytes (at + 1) left from s.rest (subst (Blank text from) same blank)
reads text (b ∷ bytes) at zero from e blank =
    let same : at + 0 ≡ at = omega arith in
    reads-by text b bytes at from (reads text bytes) e (subst (Blank text from) same blank) (is_blank b) refl (first_token (b ∷ bytes)) (first-is b bytes)

reads-whole : (text : List ℕ) (read : Result (List Token) ℕ) → Reads text 0 read → MatchResult read (AreTokens text) (IsBad text)
reads-whole text (Ok tokens) h = record { to = h.0; run = h.1; last = h.2 }
reads-whole text (Err at) h = record { before = h.before; to = h.to; run = h.run; blank = h.blank; within = h.within; no_blank = h.no_blank; no_token = h.no_token }

pub are_read : (text : List ℕ) → MatchResult (tokens_of text) (AreTokens text) (IsBad text)
unfolding tokens_of
are_read text = reads-whole text (tokens_from text 0 0) (reads text text 0 0 0 refl (no_blanks text 0 (omega arith)))
