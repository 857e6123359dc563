-- Tokens one after another: a text is read in one way.
use Rattle.std.proofs.Common.{◌≡◌, inl, inr, ℕ, zero, suc, ◌+◌, ◌-◌, ◌<◌, true, false, ◌==◌, List, [], ◌∷◌, ◌++◌, length, take, drop, get_or, refl, sym, ap, subst, ◌∙◌, arith}
use Rattle.std.specs.List.{list_all}
use Rattle.std.specs.Char.{is_ascii_digit}
use Rattle.std.proofs.lemmas.Bool.{cases_Bool, and_parts, both_ways, eqb-true, cases_order, cases_lt}
use Rattle.std.proofs.lemmas.Bool.Decides.{nat_tests}
use Rattle.std.proofs.lemmas.List.{drop_more, drop_all, take_rest}
use Rattle.ov_lex.specs.declared.token.Token.{Token}
use Rattle.ov_lex.specs.declared.token.TokenKind.{TokenKind}
use Rattle.ov_lex.specs.declared.token.TokenKind.TheVariants.{Word, Quoted, Number, Text, Sign}
use Rattle.ov_lex.specs.Spellings.{begins_word, IsNumber, is_short_sign, is_long_sign, IsSpelling, Begins, BeginsNone}
use Rattle.ov_lex.specs.Scans.{kind_by}
use Rattle.ov_lex.specs.Texts.{is_blank, Blank, Stands, Run, AreTokens, IsBad}
use Rattle.ov_lex.proofs.FirstBytes.{not_empty, front-kind}

-- ---- no token begins with a blank

word_not_blank : (b : ℕ) → begins_word b ≡ true → is_blank b ≡ false
word_not_blank b e = grind (arith, nat_tests)

digit_not_blank : (b : ℕ) → is_ascii_digit b ≡ true → is_blank b ≡ false
digit_not_blank b e = grind (arith, nat_tests)

short_not_blank : (b : ℕ) → is_short_sign b ≡ true → is_blank b ≡ false
short_not_blank b e = grind (arith, nat_tests)

long_not_blank : (b c : ℕ) → is_long_sign b c ≡ true → is_blank b ≡ false
long_not_blank b c e = grind (arith, nat_tests)

number_not_blank : (b : ℕ) (bs : List ℕ) → IsNumber (b ∷ bs) → is_blank b ≡ false
number_not_blank b bs s = elim (cases_Bool (b == 45)) [
  | inl e ↦ ap is_blank (eqb-true b 45 e)
  | inr e ↦ digit_not_blank b (and_parts (is_ascii_digit b) (list_all is_ascii_digit bs) (rw e at s.digits)).0
]

spelled_not_blank : (kind : TokenKind) (b : ℕ) (bs : List ℕ) → IsSpelling kind (b ∷ bs) → is_blank b ≡ false
spelled_not_blank Word b bs s = word_not_blank b s.0
spelled_not_blank Quoted b bs s = let first : b ≡ 34 = cc (s.between) in ap is_blank first
spelled_not_blank Number b bs s = number_not_blank b bs s
spelled_not_blank Text b bs s = let first : b ≡ 39 = cc (s.spelled) in ap is_blank first
spelled_not_blank Sign b [] s = short_not_blank b s
spelled_not_blank Sign b (c ∷ []) s = long_not_blank b c s
spelled_not_blank Sign b (c ∷ d ∷ bs) s = absurd s

front_not_blank : (kind : TokenKind) (b : ℕ) (bs : List ℕ) (m : ℕ) → IsSpelling kind (take m (b ∷ bs)) → is_blank b ≡ false
front_not_blank kind b bs zero s = absurd (not_empty kind s)
front_not_blank kind b bs (suc m) s = spelled_not_blank kind b (take m bs) s

pub has_some : (kind : TokenKind) (bytes : List ℕ) (n : ℕ) → Begins bytes kind n → 0 < n
has_some kind bytes zero h = absurd (not_empty kind h.spelled)
has_some kind bytes (suc n) h = omega arith

-- ---- one token at a place

kind_is : (bytes : List ℕ) (kind : TokenKind) (n : ℕ) → Begins bytes kind n → kind_by (get_or bytes 0 0) ≡ kind
kind_is [] kind n h = absurd (omega (arith, has_some kind [] n h, h.within))
kind_is (b ∷ bs) kind n h = front-kind kind b bs n h.spelled

pub one_kind : (bytes : List ℕ) (j k : TokenKind) (m n : ℕ) → Begins bytes j m → Begins bytes k n → j ≡ k
one_kind bytes j k m n g h = sym (kind_is bytes j m g) ∙ kind_is bytes k n h

one_len : (bytes : List ℕ) (j k : TokenKind) (m n : ℕ) → Begins bytes j m → Begins bytes k n → m ≡ n
one_len bytes j k m n g h = let le = g.longest k n h.within h.spelled in let ge = h.longest j m g.within g.spelled in omega arith

pub in_text : (text : List ℕ) (t : Token) → Stands text t → t.at < length text
in_text text t h = elim (cases_lt t.at (length text)) [
  | inl lt ↦ lt
  | inr le ↦ absurd (omega (arith, has_some t.kind (drop t.at text) (t.end - t.at) h.longest, h.longest.within, ap length (drop_all t.at text le)))
]

begins_not_blank : (bytes : List ℕ) (kind : TokenKind) (n : ℕ) → Begins bytes kind n → is_blank (get_or bytes 0 0) ≡ false
begins_not_blank [] kind n h = refl
begins_not_blank (b ∷ bs) kind n h = front_not_blank kind b bs n h.spelled

not_blank : (text : List ℕ) (t : Token) → Stands text t → is_blank (get_or text t.at 0) ≡ false
not_blank text t h =
    let first : get_or (drop t.at text) 0 0 ≡ get_or text t.at 0 = ap (λ (xs : List ℕ). get_or xs 0 0) (drop_more text t.at 0 (in_text text t h)) in
    ap is_blank (sym first) ∙ begins_not_blank (drop t.at text) t.kind (t.end - t.at) h.longest

same_fields : (s t : Token) → s.kind ≡ t.kind → s.at ≡ t.at → s.end ≡ t.end → s ≡ t
same_fields s t k a e = λ i. record { kind = k i; at = a i; end = e i }

one_token : (text : List ℕ) (s t : Token) → Stands text s → Stands text t → s.at ≡ t.at → s ≡ t
one_token text s t g h e =
    let moved : Begins (drop t.at text) s.kind (s.end - s.at) = subst (λ (i : ℕ). Begins (drop i text) s.kind (s.end - s.at)) e g.longest in
    let kinds = one_kind (drop t.at text) s.kind t.kind (s.end - s.at) (t.end - t.at) moved h.longest in
    let lens = one_len (drop t.at text) s.kind t.kind (s.end - s.at) (t.end - t.at) moved h.longest in
    let ends : s.end ≡ t.end = omega (arith, g.forward, h.forward) in
    same_fields s t kinds e ends

-- ---- blanks up to one place

pub record Stops (text : List ℕ) (from to : ℕ) : Type 0 where
  pub blank : Blank text from to
  pub stops : to < length text → is_blank (get_or text to 0) ≡ false

one_stop : (text : List ℕ) (from i j : ℕ) → Stops text from i → Stops text from j → i ≡ j
one_stop text from i j g h = elim (cases_order i j) [
  | inl e ↦ e
  | inr order ↦ elim order [
    | inl lt ↦ absurd (both_ways (is_blank (get_or text i 0)) (g.stops (omega (arith, h.blank.within))) (h.blank.blanks i g.blank.forward lt))
    | inr lt ↦ absurd (both_ways (is_blank (get_or text j 0)) (h.stops (omega (arith, g.blank.within))) (g.blank.blanks j h.blank.forward lt))
  ]
]

stops_at : (text : List ℕ) (from : ℕ) (t : Token) → Blank text from t.at → Stands text t → Stops text from t.at
stops_at text from t b h = record { blank = b; stops = λ lt. not_blank text t h }

-- ---- one reading

-- blanks up to the end, or up to a place where no token begins
pub record Ends (text : List ℕ) (from to : ℕ) : Type 0 where
  pub stop : Stops text from to
  pub none : to < length text → BeginsNone (drop to text)

no_more : (text : List ℕ) (from p : ℕ) (t : Token) → Ends text from p → Blank text from t.at → Stands text t → ⊥
no_more text from p t e b h =
    let same : p ≡ t.at = one_stop text from p t.at e.stop (stops_at text from t b h) in
    e.none (omega (arith, in_text text t h)) t.kind (t.end - t.at) (subst (λ (i : ℕ). Begins (drop i text) t.kind (t.end - t.at)) (sym same) h.longest)

pub one_reading : (text : List ℕ) (from : ℕ) (xs ys : List Token) (i j p q : ℕ) → Run text from xs i → Ends text i p → Run text from ys j → Ends text j q → (xs ≡ ys) × (p ≡ q)
one_reading text from [] [] i j p q r e s f =
    (refl, one_stop text from p q (subst (λ (k : ℕ). Stops text k p) (sym r) e.stop) (subst (λ (k : ℕ). Stops text k q) (sym s) f.stop))
one_reading text from [] (y ∷ ys) i j p q r e s f = absurd (no_more text from p y (subst (λ (k : ℕ). Ends text k p) (sym r) e) s.0 s.1)
one_reading text from (x ∷ xs) [] i j p q r e s f = absurd (no_more text from q x (subst (λ (k : ℕ). Ends text k q) (sym s) f) r.0 r.1)
one_reading text from (x ∷ xs) (y ∷ ys) i j p q r e s f =
    let place : x.at ≡ y.at = one_stop text from x.at y.at (stops_at text from x r.0 r.1) (stops_at text from y s.0 s.1) in
    let same : x ≡ y = one_token text x y r.1 s.1 place in
    let rest : (xs ≡ ys) × (p ≡ q) = one_reading text x.end xs ys i j p q r.2 e (subst (λ (t : Token). Run text t.end ys j) (sym same) s.2) f in
    (cc (same, rest.0), rest.1)

pub tokens_end : (text : List ℕ) (xs : List Token) (h : AreTokens text xs) → Ends text h.to (length text)
tokens_end text xs h = record { stop = record { blank = h.last; stops = λ lt. absurd (omega arith) }; none = λ lt. absurd (omega arith) }

pub bad_ends : (text : List ℕ) (at : ℕ) (h : IsBad text at) → Ends text h.to at
bad_ends text at h = record { stop = record { blank = h.blank; stops = λ lt. h.no_blank }; none = λ lt. h.no_token }

-- ---- reading on

-- what a loop has read: tokens, and blanks up to the next one's place
pub record ReadTo (text : List ℕ) (found : List Token) (at : ℕ) : Type 0 where
  pub to : ℕ
  pub run : Run text 0 found to
  pub stop : Stops text to at

run_push : (text : List ℕ) (from : ℕ) (ts : List Token) (to : ℕ) (t : Token) → Run text from ts to → Blank text to t.at → Stands text t → Run text from (ts ++ t ∷ []) t.end
run_push text from [] to t r b h = (subst (λ (k : ℕ). Blank text k t.at) (sym r) b, h, refl)
run_push text from (x ∷ xs) to t r b h = (r.0, r.1, run_push text x.end xs to t r.2 b h)

pub reads_on : (text : List ℕ) (found : List Token) (t : Token) (next : ℕ) → ReadTo text found t.at → Stands text t → Blank text t.end next → (next < length text → is_blank (get_or text next 0) ≡ false) → ReadTo text (found ++ t ∷ []) next
reads_on text found t next h stands blank stops = record {
  to = t.end;
  run = run_push text 0 found h.to t h.run h.stop.blank stands;
  stop = record { blank = blank; stops = stops };
}

-- a token that was found behind a place
pub stands_at : (text : List ℕ) (at : ℕ) (kind : TokenKind) (len : ℕ) → Begins (take (length text - at) (drop at text)) kind len → Stands text (record { kind = kind; at = at; end = at + len })
stands_at text at kind len h =
    let n : len ≡ (at + len) - at = omega arith in
    record { forward = omega arith; longest = subst (λ (k : ℕ). Begins (drop at text) kind k) n (subst (λ (xs : List ℕ). Begins xs kind len) (take_rest text at) h) }
