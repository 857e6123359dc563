-- Where a text may be cut: a token begins and ends with an ASCII byte.
use Rattle.std.proofs.Common.{◌≡◌, ℕ, zero, suc, ◌+◌, ◌-◌, ◌<◌, ◌≤◌, true, List, [], ◌∷◌, ◌++◌, length, take, drop, get_or, refl, sym, ap, subst, ◌∙◌, arith}
use Rattle.std.specs.List.{list_all, flat_map}
use Rattle.std.specs.Str.{IsUtf8, IsCharBoundary, IsAscii}
use Rattle.std.proofs.lemmas.Bool.{and_parts}
use Rattle.std.proofs.lemmas.Bool.Decides.{nat_tests}
use Rattle.std.proofs.lemmas.List.{get_or-take, get_or-drop, get_or_at, length-take-le, length-drop, length-append, drop-take, take_at}
use Rattle.std.proofs.lemmas.Str.{IsCharBoundary-after_ascii, IsUtf8-take}
use Rattle.ov_lex.specs.declared.token.Token.{Token}
use Rattle.ov_lex.specs.declared.token.TokenKind.{TokenKind}
use Rattle.ov_lex.specs.declared.token.TokenKind.TheVariants.{Word, Quoted, Number, Text, Sign}
use Rattle.ov_lex.specs.Spellings.{begins_word, continues_word, IsWord, IsSign, is_short_sign, is_long_sign, IsSpelling, escaped}
use Rattle.ov_lex.specs.Texts.{Stands, spelling_of}
use Rattle.ov_lex.proofs.Numbers.{is_ascii}
use Rattle.ov_parse.specs.Unquoting.{Between}

pub record AsciiEnds (bytes : List ℕ) : Type 0 where
  pub some : 0 < length bytes
  pub first : get_or bytes 0 0 < 128
  pub last : get_or bytes (length bytes - 1) 0 < 128

all-ends : (bytes : List ℕ) → 0 < length bytes → IsAscii bytes → AsciiEnds bytes
all-ends bytes some h = record { some = some; first = h 0; last = h (length bytes - 1) }

pub between-ends : (bytes : List ℕ) → Between bytes → AsciiEnds bytes
between-ends bytes h =
    let len : length bytes ≡ suc (length h.inner) + 1 = ap length h.bytes_are ∙ length-append (h.quote ∷ h.inner) (h.quote ∷ []) in
    let place : length bytes - 1 ≡ length (h.quote ∷ h.inner) = omega arith in
    let at : get_or (h.quote ∷ (h.inner ++ h.quote ∷ [])) (length (h.quote ∷ h.inner)) 0 ≡ h.quote = get_or_at (h.quote ∷ h.inner) h.quote [] 0 (length (h.quote ∷ h.inner)) refl in
    let last : get_or bytes (length bytes - 1) 0 ≡ h.quote = ap (λ (i : ℕ). get_or bytes i 0) place ∙ (ap (λ (ss : List ℕ). get_or ss (length (h.quote ∷ h.inner)) 0) h.bytes_are ∙ at) in
    let first : get_or bytes 0 0 ≡ h.quote = ap (λ (ss : List ℕ). get_or ss 0 0) h.bytes_are in
    let small : h.quote < 128 = h.ascii in
    record { some = omega arith; first = omega arith; last = omega arith }

begin-small : (b : ℕ) → begins_word b ≡ true → b < 128
begin-small b e = grind (arith, nat_tests)

continue-small : (b : ℕ) → continues_word b ≡ true → b < 128
continue-small b e = grind (arith, nat_tests)

short-small : (b : ℕ) → is_short_sign b ≡ true → b < 128
short-small b e = grind (arith, nat_tests)

long-small : (b c : ℕ) → is_long_sign b c ≡ true → b < 128
long-small b c e = grind (arith, nat_tests)

long-small-2 : (b c : ℕ) → is_long_sign b c ≡ true → c < 128
long-small-2 b c e = grind (arith, nat_tests)

rest-ascii : (bs : List ℕ) → list_all continues_word bs ≡ true → IsAscii bs
rest-ascii [] e i = omega arith
rest-ascii (b ∷ bs) e zero = continue-small b (and_parts (continues_word b) (list_all continues_word bs) e).0
rest-ascii (b ∷ bs) e (suc i) = rest-ascii bs (and_parts (continues_word b) (list_all continues_word bs) e).1 i

word-ascii : (b : ℕ) (bs : List ℕ) → IsWord (b ∷ bs) → IsAscii (b ∷ bs)
word-ascii b bs s zero = begin-small b s.0
word-ascii b bs s (suc i) = rest-ascii bs s.1 i

pub quoted-between : (bytes : List ℕ) → IsSpelling Quoted bytes → Between bytes
quoted-between bytes s = record { quote = 34; inner = s.name; ascii = omega arith; bytes_are = s.between }

pub text-between : (bytes : List ℕ) → IsSpelling Text bytes → Between bytes
text-between bytes s = record { quote = 39; inner = flat_map escaped s.text; ascii = omega arith; bytes_are = s.spelled }

number-some : (bytes : List ℕ) → IsSpelling Number bytes → 0 < length bytes
number-some [] s = absurd (omega (arith, s.some))
number-some (b ∷ bs) s = omega arith

sign-ends : (bytes : List ℕ) → IsSign bytes → AsciiEnds bytes
sign-ends [] s = absurd s
sign-ends (b ∷ []) s = let small = short-small b s in record { some = omega arith; first = small; last = small }
sign-ends (b ∷ c ∷ []) s = record { some = omega arith; first = long-small b c s; last = long-small-2 b c s }
sign-ends (b ∷ c ∷ d ∷ bs) s = absurd s

pub spelled-ends : (kind : TokenKind) (bytes : List ℕ) → IsSpelling kind bytes → AsciiEnds bytes
spelled-ends Word [] s = absurd s
spelled-ends Word (b ∷ bs) s = all-ends (b ∷ bs) (omega arith) (word-ascii b bs s)
spelled-ends Quoted bytes s = between-ends bytes (quoted-between bytes s)
spelled-ends Number bytes s = all-ends bytes (number-some bytes s) (is_ascii bytes s)
spelled-ends Text bytes s = between-ends bytes (text-between bytes s)
spelled-ends Sign bytes s = sign-ends bytes s

-- ---- a token in its text

pub record Cut (text : List ℕ) (token : Token) : Type 0 where
  pub within : token.end ≤ length text
  pub some : token.at < token.end
  pub first : get_or text token.at 0 < 128
  pub last : get_or text (token.end - 1) 0 < 128

pub cut : (text : List ℕ) (token : Token) → Stands text token → Cut text token
cut text token h =
    let ends : AsciiEnds (take (token.end - token.at) (drop token.at text)) = spelled-ends token.kind _ h.longest.spelled in
    let len : length (take (token.end - token.at) (drop token.at text)) ≡ token.end - token.at = length-take-le (token.end - token.at) (drop token.at text) h.longest.within in
    let some : token.at < token.end = omega (arith, ends.some) in
    let within : token.end ≤ length text = omega (arith, h.longest.within, length-drop token.at text) in
    let first_is : get_or (take (token.end - token.at) (drop token.at text)) 0 0 ≡ get_or text (token.at + 0) 0 = get_or-take (token.end - token.at) (drop token.at text) 0 0 (omega arith) ∙ get_or-drop token.at text 0 0 in
    let last_is : get_or (take (token.end - token.at) (drop token.at text)) (token.end - token.at - 1) 0 ≡ get_or text (token.at + (token.end - token.at - 1)) 0 = get_or-take (token.end - token.at) (drop token.at text) (token.end - token.at - 1) 0 (omega arith) ∙ get_or-drop token.at text (token.end - token.at - 1) 0 in
    let from : token.at + 0 ≡ token.at = omega arith in
    let to : token.at + (token.end - token.at - 1) ≡ token.end - 1 = omega arith in
    let last_at : length (take (token.end - token.at) (drop token.at text)) - 1 ≡ token.end - token.at - 1 = omega arith in
    record {
      within = within;
      some = some;
      first = subst (λ (b : ℕ). b < 128) (first_is ∙ ap (λ (i : ℕ). get_or text i 0) from) ends.first;
      last = subst (λ (b : ℕ). b < 128) (ap (λ (i : ℕ). get_or (take (token.end - token.at) (drop token.at text)) i 0) last_at ∙ (last_is ∙ ap (λ (i : ℕ). get_or text i 0) to)) ends.last;
    }

pub cut_end : (text : List ℕ) (token : Token) → IsUtf8 text → Stands text token → IsCharBoundary text token.end
cut_end text token u h =
    let c = cut text token h in
    let end : token.end - 1 + 1 ≡ token.end = omega (arith, c.some) in
    subst (λ (i : ℕ). IsCharBoundary text i) end (IsCharBoundary-after_ascii text (token.end - 1) u (omega (arith, c.within, c.some)) c.last)

pub small_boundary : (bytes : List ℕ) (i : ℕ) → i ≤ length bytes → get_or bytes i 0 < 128 → IsCharBoundary bytes i
small_boundary bytes i le small = (le, λ lt big. absurd (omega (arith, small, big)))

pub cut_at : (text front : List ℕ) (token : Token) → Stands text token → front ≡ take token.end text → IsCharBoundary front token.at
cut_at text front token h e =
    let c = cut text token h in
    let len : length front ≡ token.end = ap length e ∙ length-take-le token.end text c.within in
    let same : get_or front token.at 0 ≡ get_or text token.at 0 = ap (λ (ss : List ℕ). get_or ss token.at 0) e ∙ get_or-take token.end text token.at 0 c.some in
    small_boundary front token.at (omega (arith, c.some)) (subst (λ (b : ℕ). b < 128) (sym same) c.first)

pub cut_is : (text front spelled : List ℕ) (token : Token) → Stands text token → front ≡ take token.end text → spelled ≡ drop token.at front → spelled ≡ spelling_of text token
cut_is text front spelled token h e d =
    let c = cut text token h in
    let n : token.at + (token.end - token.at) ≡ token.end = omega (arith, c.some) in
    d ∙ (ap (drop token.at) (e ∙ ap (λ (i : ℕ). take i text) (sym n)) ∙ drop-take token.at (token.end - token.at) text)

-- ---- what stands between quotes

pub after_first : (bytes front : List ℕ) → IsUtf8 bytes → Between bytes → front ≡ take (length bytes - 1) bytes → IsCharBoundary front 1
after_first bytes front u h e =
    let ends = between-ends bytes h in
    let whole : length bytes ≡ suc (length h.inner) + 1 = ap length h.bytes_are ∙ length-append (h.quote ∷ h.inner) (h.quote ∷ []) in
    let utf8 : IsUtf8 front = subst (λ (ss : List ℕ). IsUtf8 ss) (sym e) (IsUtf8-take bytes (length bytes - 1) u (small_boundary bytes (length bytes - 1) (omega arith) ends.last)) in
    let len : length front ≡ length bytes - 1 = ap length e ∙ length-take-le (length bytes - 1) bytes (omega arith) in
    let same : get_or front 0 0 ≡ get_or bytes 0 0 = ap (λ (ss : List ℕ). get_or ss 0 0) e ∙ get_or-take (length bytes - 1) bytes 0 0 (omega arith) in
    IsCharBoundary-after_ascii front 0 utf8 (omega arith) (subst (λ (b : ℕ). b < 128) (sym same) ends.first)

-- the bytes between the quotes
pub inside_is : (bytes front result : List ℕ) (quote : ℕ) (inner : List ℕ) → bytes ≡ quote ∷ (inner ++ quote ∷ []) → front ≡ take (length bytes - 1) bytes → result ≡ drop 1 front → result ≡ inner
inside_is bytes front result quote inner h e d =
    let whole : length bytes ≡ suc (length inner) + 1 = ap length h ∙ length-append (quote ∷ inner) (quote ∷ []) in
    let place : length (quote ∷ inner) ≡ length bytes - 1 = omega arith in
    let taken : take (length bytes - 1) ((quote ∷ inner) ++ quote ∷ []) ≡ quote ∷ inner = take_at (quote ∷ inner) (quote ∷ []) (length bytes - 1) place in
    let front_is : front ≡ quote ∷ inner = e ∙ (ap (take (length bytes - 1)) h ∙ taken) in
    d ∙ ap (drop 1) front_is
