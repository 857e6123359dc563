-- Fields that call for quotes.
use Rattle.std.proofs.Common.{◌≡◌, ◌<◌, ◌+◌, ◌/◌, ◌%◌, ◌++◌, ◌==◌, ◌∷◌, ◌∙◌, [], ℕ, zero, suc, List, Bool, true, false, refl, sym, ap, length, take, get_or, arith, append_assoc}
use Rattle.std.specs.Prelude.{ℤ, pos, negsuc, if◌then◌else◌, Result, Ok, Err, OnOk, is_ok}
use Rattle.std.specs.Fmt.{decimal, digits, digits_onto, digit_glyph, signed_decimal}
use Rattle.std.specs.List.{list_any}
use Rattle.std.proofs.lemmas.Bool.{lt-ltb, ne_eqb}
use Rattle.csv.specs.Writing.{default_writer, escaped, field_text, needs_byte, quoted}
use Rattle.csv.proofs.WriteFacts.{escaped-other, escaped-double, quoted-step}

digit_plain : (n : ℕ) → n < 10 → needs_byte default_writer (48 + n) ≡ false
digit_plain n low =
    rw (ne_eqb (48 + n) 44 (λ e. omega (arith, e)), ne_eqb (48 + n) 34 (λ e. omega (arith, e)), ne_eqb (48 + n) 13 (λ e. omega (arith, e)), ne_eqb (48 + n) 10 (λ e. omega (arith, e))) refl

-- no digit calls for quotes, and no sign
digits_plain : (k n : ℕ) (acc : List ℕ) → list_any (needs_byte default_writer) acc ≡ false → list_any (needs_byte default_writer) (digits_onto k 10 false n acc) ≡ false
digits_plain zero n acc none = none
digits_plain (suc k) n acc none = by (n / 10 == 0) (digits_plain k (n / 10) (digit ∷ acc) more)
  where
    digit : ℕ
    digit = digit_glyph false (n % 10)

    more : list_any (needs_byte default_writer) (digit ∷ acc) ≡ false
    more = rw (lt-ltb (n % 10) 10 (omega arith), digit_plain (n % 10) (omega arith)) none

    by : (b : Bool) → list_any (needs_byte default_writer) (digits_onto k 10 false (n / 10) (digit ∷ acc)) ≡ false → list_any (needs_byte default_writer) (if b then digit ∷ acc else digits_onto k 10 false (n / 10) (digit ∷ acc)) ≡ false
    by true later = more
    by false later = later

decimal_plain : (n : ℕ) → list_any (needs_byte default_writer) (decimal n) ≡ false
unfolding digits
decimal_plain n = digits_plain 64 n [] refl

signed_plain : (x : ℤ) → list_any (needs_byte default_writer) (signed_decimal x) ≡ false
signed_plain (pos n) = decimal_plain n
signed_plain (negsuc n) = decimal_plain (suc n)

-- so a number's field is its digits
pub number_field : (x : ℤ) → field_text default_writer (signed_decimal x) ≡ signed_decimal x
number_field x = ap (λ (b : Bool). if b then quoted default_writer (signed_decimal x) else signed_decimal x) (signed_plain x)

-- between quotes no byte stands yet
pub quoted_none : (before text : List ℕ) → text ≡ before ++ 34 ∷ [] → text ≡ before ++ (34 ∷ escaped default_writer [])
unfolding escaped
quoted_none before text is = is

-- one byte more, which is no quote
pub quoted_more : (before text new field : List ℕ) (i : ℕ) → i < length field → text ≡ before ++ (34 ∷ escaped default_writer (take i field)) → (get_or field i 0 ≡ 34 → ⊥)
    → new ≡ text ++ get_or field i 0 ∷ [] → new ≡ before ++ (34 ∷ escaped default_writer (take (i + 1) field))
quoted_more before text new field i low is other added =
    added ∙ (λ j. is j ++ sym (escaped-other default_writer (get_or field i 0) other) j)
    ∙ append_assoc before (34 ∷ escaped default_writer (take i field)) (escaped default_writer (get_or field i 0 ∷ []))
    ∙ ap (λ l. before ++ l) (quoted-step default_writer 34 field i low)

-- or is one, and stands twice
pub quoted_twice : (before text mid new field : List ℕ) (i : ℕ) → i < length field → text ≡ before ++ (34 ∷ escaped default_writer (take i field)) → get_or field i 0 ≡ 34
    → mid ≡ text ++ 34 ∷ [] → new ≡ mid ++ get_or field i 0 ∷ [] → new ≡ before ++ (34 ∷ escaped default_writer (take (i + 1) field))
quoted_twice before text mid new field i low is quote first second =
    second ∙ ap (λ l. l ++ get_or field i 0 ∷ []) first ∙ append_assoc text (34 ∷ []) (get_or field i 0 ∷ [])
    ∙ ap (λ b. text ++ (b ∷ get_or field i 0 ∷ [])) (sym quote)
    ∙ (λ j. is j ++ sym (escaped-double default_writer (get_or field i 0) quote refl) j)
    ∙ append_assoc before (34 ∷ escaped default_writer (take i field)) (escaped default_writer (get_or field i 0 ∷ []))
    ∙ ap (λ l. before ++ l) (quoted-step default_writer 34 field i low)

-- what is appended where there is memory
pub on_ok_is : {T E : Type 0} {new added wanted : List ℕ} (old : List ℕ) (r : Result T E) → new ≡ (if is_ok r then added else old) → added ≡ wanted → OnOk r (new ≡ wanted)
on_ok_is old (Ok x) is same = is ∙ same
on_ok_is old (Err e) is same = tt
