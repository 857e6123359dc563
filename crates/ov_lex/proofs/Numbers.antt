-- What parsing says of a number.
use Rattle.std.proofs.Common.{◌≡◌, inl, inr, ℕ, zero, suc, ◌<◌, Bool, true, false, ◌==◌, List, [], ◌∷◌, length, Result, Ok, Err, ℤ, sym, ◌∙◌, FitsSigned, IsTrue, ◌↔◌, arith}
use Rattle.std.specs.List.{list_all}
use Rattle.std.specs.Char.{is_ascii_digit, digit_value}
use Rattle.std.specs.Int.{w64}
use Rattle.std.specs.Result.{OkIff, is_ok}
use Rattle.std.specs.Str.{IsAscii}
use Rattle.std.specs.Str.Parse.{AllDigits, IsNumeral, without_leading_sign, signed_digits_value}
use Rattle.std.proofs.lemmas.Bool.{cases_Bool, and_parts, eqb-true, false≢true}
use Rattle.std.proofs.lemmas.Bool.Decides.{nat_tests}
use Rattle.ov_lex.specs.Spellings.{IsNumber, number_of}

digit_below : (b : ℕ) → is_ascii_digit b ≡ true → digit_value b < 10
digit_below b e = grind (arith, nat_tests)

all_below : (bs : List ℕ) → list_all is_ascii_digit bs ≡ true → AllDigits 10 bs
all_below [] e = tt
all_below (b ∷ bs) e = let parts = and_parts (is_ascii_digit b) (list_all is_ascii_digit bs) e in (digit_below b parts.0, all_below bs parts.1)

no_plus : (b : ℕ) → is_ascii_digit b ≡ true → (b == 43) ≡ false
no_plus b e = grind (arith, nat_tests)

pub numeral : (bytes : List ℕ) → IsNumber bytes → IsNumeral 10 (without_leading_sign bytes)
numeral [] s = absurd (omega (arith, s.some))
numeral (b ∷ bs) s = elim (cases_Bool (b == 45)) [
  | inl e ↦
      let digits : list_all is_ascii_digit bs ≡ true = rw e at s.digits in
      let some : 0 < length bs = rw e at s.some in
      rw e (some, all_below bs digits)
  | inr e ↦
      let digits : list_all is_ascii_digit (b ∷ bs) ≡ true = rw e at s.digits in
      let first = (and_parts (is_ascii_digit b) (list_all is_ascii_digit bs) digits).0 in
      rw (e, no_plus b first) (omega arith, all_below (b ∷ bs) digits)
]

small : (b : ℕ) → is_ascii_digit b ≡ true → b < 128
small b e = grind (arith, nat_tests)

digits_are_ascii : (bs : List ℕ) → list_all is_ascii_digit bs ≡ true → IsAscii bs
digits_are_ascii [] e i = omega arith
digits_are_ascii (b ∷ bs) e zero = small b (and_parts (is_ascii_digit b) (list_all is_ascii_digit bs) e).0
digits_are_ascii (b ∷ bs) e (suc i) = digits_are_ascii bs (and_parts (is_ascii_digit b) (list_all is_ascii_digit bs) e).1 i

with_first : (b : ℕ) (bs : List ℕ) → b < 128 → IsAscii bs → IsAscii (b ∷ bs)
with_first b bs lt h zero = lt
with_first b bs lt h (suc i) = h i

pub is_ascii : (bytes : List ℕ) → IsNumber bytes → IsAscii bytes
is_ascii [] s = λ i. omega arith
is_ascii (b ∷ bs) s = elim (cases_Bool (b == 45)) [
  | inl e ↦ let first = eqb-true b 45 e in with_first b bs (omega arith) (digits_are_ascii bs (rw e at s.digits))
  | inr e ↦ digits_are_ascii (b ∷ bs) (rw e at s.digits)
]

pub parsed : {E : Type 0} (bytes : List ℕ) (r : Result ℤ E) (ok : Bool) → IsNumber bytes → ok ≡ is_ok r → OkIff r (IsNumeral 10 (without_leading_sign bytes) × FitsSigned w64 (signed_digits_value 10 bytes)) (signed_digits_value 10 bytes) → IsTrue ok ↔ FitsSigned w64 (number_of bytes)
parsed bytes (Ok n) ok s is h = (λ t. h.0.1, λ t. is)
parsed bytes (Err e) ok s is h = (λ t. absurd (false≢true (sym is ∙ t)), λ t. absurd (h (numeral bytes s, t)))
