-- The number of a few digits, read one after another.
use Rattle.std.proofs.Common.{◌≡◌, ◌<◌, ◌≤◌, ◌+◌, ◌-◌, ◌*◌, ◌^◌, ◌==◌, ◌&&◌, ◌∷◌, ◌∙◌, [], ℕ, suc, List, Bool, Some, refl, sym, ap, true, false, length, drop, get_or, nat_le, nat_lt, arith}
use Rattle.std.specs.Prelude.{pos}
use Rattle.std.specs.Char.{digit_value}
use Rattle.std.specs.List.{list_all}
use Rattle.std.specs.Str.Parse.{digits_value, digits_value_after}
use Rattle.std.proofs.Math.Nat.{pow-suc, pow-le-pow_right}
use Rattle.std.proofs.lemmas.Bool.{eqb-true, false_from_ne_true, lt-ltb, le-leb, le-ltb}
use Rattle.std.proofs.lemmas.List.{drop_more, drop_all}
use Rattle.ov_value.specs.declared.value.Value.TheVariants.{Int}
use Rattle.ov_model.specs.Csv.{int_value}
use Rattle.ov_csv.proofs.Spelled.{and-left}

abbrev is_digit : ℕ → Bool
is_digit c = nat_lt (digit_value c) 10

digit_is : (c : ℕ) → 48 ≤ c → c ≤ 57 → digit_value c ≡ c - 48
digit_is c low high = rw (le-ltb c 48 low, lt-ltb c 58 (omega (arith, high))) refl

digit_true : (c : ℕ) → 48 ≤ c → c ≤ 57 → is_digit c ≡ true
digit_true c low high = rw (digit_is c low high) (lt-ltb (c - 48) 10 (omega (arith, low, high)))

-- the digits before a place are those of a number, and all are digits where the others are
pub record DigitsSoFar (digits : List ℕ) (place number : ℕ) : Type 0 where
  pub value : digits_value 10 digits ≡ digits_value_after 10 number (drop place digits)
  pub are : list_all is_digit digits ≡ list_all is_digit (drop place digits)
  pub small : number < 10 ^ place

pub digits_none : (digits : List ℕ) → DigitsSoFar digits 0 0
digits_none digits = record { value = refl; are = refl; small = omega arith }

pub digits_more : (digits : List ℕ) (place number c : ℕ) → DigitsSoFar digits place number → place < length digits → c ≡ get_or digits place c → 48 ≤ c → c ≤ 57 → DigitsSoFar digits (place + 1) (10 * number + (c - 48))
digits_more digits place number c s here is low high =
    let from : drop place digits ≡ c ∷ drop (place + 1) digits = drop_more digits place c here ∙ ap (λ (x : ℕ). x ∷ drop (place + 1) digits) (sym is) in
    let next : number * 10 + digit_value c ≡ 10 * number + (c - 48) = omega (arith, digit_is c low high) in
    let one : place + 1 ≡ suc place = omega arith in
    record {
      value = s.value ∙ ap (λ (l : List ℕ). digits_value_after 10 number l) from ∙ ap (λ n. digits_value_after 10 n (drop (place + 1) digits)) next;
      are = s.are ∙ ap (λ (l : List ℕ). list_all is_digit l) from ∙ ap (λ b. b && list_all is_digit (drop (place + 1) digits)) (digit_true c low high);
      small = rw (one, pow-suc 10 place) (omega (arith, s.small, low, high));
    }

-- at most 18 digits are below 2^63
pub digits_small : (place number : ℕ) → number < 10 ^ place → place ≤ 18 → number < 10 ^ 18
digits_small place number less few = let most : 10 ^ place ≤ 10 ^ 18 = pow-le-pow_right (omega arith) few in omega (arith, less, most)

-- no sign is a digit
no_sign : (b sign : ℕ) → is_digit b ≡ true → is_digit sign ≡ false → (b == sign) ≡ false
no_sign b sign is not_so = false_from_ne_true (b == sign) (λ e. let same : is_digit b ≡ is_digit sign = ap is_digit (eqb-true b sign e) in cc)

number_of : (digits : List ℕ) (number : ℕ) → 0 < length digits → list_all is_digit digits ≡ true → digits_value 10 digits ≡ number → number < 2 ^ 63 → int_value digits ≡ Some (Int (pos number))
number_of [] number some all value small = absurd (omega arith)
number_of (b ∷ bs) number some all value small =
    let one : nat_le 1 (length (b ∷ bs)) ≡ true = le-leb 1 (length (b ∷ bs)) (omega (arith, some)) in
    rw (no_sign b 45 (and-left _ _ all) refl, no_sign b 43 (and-left _ _ all) refl, all, value, lt-ltb number (2 ^ 63) small, one) refl

pub digits_all : (digits : List ℕ) (place number : ℕ) → DigitsSoFar digits place number → length digits ≤ place → 0 < length digits → number < 10 ^ 18 → int_value digits ≡ Some (Int (pos number))
digits_all digits place number s past some small =
    let end : drop place digits ≡ [] = drop_all place digits past in
    number_of digits number some (s.are ∙ ap (λ (l : List ℕ). list_all is_digit l) end) (s.value ∙ ap (λ (l : List ℕ). digits_value_after 10 number l) end) (omega (arith, small))
