-- What the fields of each kind spell, from what std says of parsing.
use Rattle.std.proofs.Common.{◌≡◌, ◌≢◌, ◌^◌, ◌++◌, ◌==◌, ◌&&◌, ◌∷◌, ◌∙◌, [], ℕ, List, Bool, Option, Some, None, refl, ap, true, false, length, inl, inr, arith, rules, w64}
use Rattle.std.specs.Prelude.{ℤ, pos, negsuc, nat_lt}
use Rattle.std.specs.Char.{digit_value}
use Rattle.std.specs.Int.RustNames.{FitsSigned}
use Rattle.std.specs.List.{list_all}
use Rattle.std.specs.Str.Parse.{AllDigits, IsNumeral, without_leading_sign, signed_digits_value}
use Rattle.std.proofs.lemmas.Bool.{cases_Bool, eqb-true, ltb-true, lt-ltb, leb-true}
use Rattle.std.proofs.lemmas.Int.{to_z-of_z}
use mir.Val.{to_z, of_z}
use Rattle.ov_value.specs.declared.value.Value.{Value}
use Rattle.ov_value.specs.declared.value.Value.TheVariants.{Int, Text}
use Rattle.ov_model.specs.Csv.{is_numeral, is_64_bits, int_value, is_null_mark, text_value}

pub and-left : (a b : Bool) → (a && b) ≡ true → a ≡ true
and-left true b e = refl
and-left false b e = cc

pub and-right : (a b : Bool) → (a && b) ≡ true → b ≡ true
and-right true b e = e
and-right false b e = cc

pub both : (a b : Bool) → a ≡ true → b ≡ true → (a && b) ≡ true
both a b p q = rw (p, q) refl

digits-true : (ds : List ℕ) → AllDigits 10 ds → list_all (λ c. nat_lt (digit_value c) 10) ds ≡ true
digits-true [] h = refl
digits-true (c ∷ cs) h = both _ _ (lt-ltb _ _ h.0) (digits-true cs h.1)

digits-all : (ds : List ℕ) → list_all (λ c. nat_lt (digit_value c) 10) ds ≡ true → AllDigits 10 ds
digits-all [] e = tt
digits-all (c ∷ cs) e = (ltb-true _ _ (and-left _ _ e), digits-all cs (and-right _ _ e))

pub numeral-true : (ds : List ℕ) → IsNumeral 10 ds → is_numeral ds ≡ true
numeral-true [] h = absurd (omega (arith, h.0))
numeral-true (c ∷ cs) h = both _ _ (search rules) (digits-true (c ∷ cs) h.1)

pub numeral-is : (ds : List ℕ) → is_numeral ds ≡ true → IsNumeral 10 ds
numeral-is ds e = (leb-true 1 (length ds) (and-left _ _ e), digits-all ds (and-right _ _ e))

pub bits-true : (z : ℤ) → FitsSigned w64 z → is_64_bits z ≡ true
bits-true (pos n) h = lt-ltb n (2 ^ 63) h.sfits
bits-true (negsuc n) h = lt-ltb n (2 ^ 63) h.sfits

pub bits-fit : (z : ℤ) → is_64_bits z ≡ true → FitsSigned w64 z
bits-fit (pos n) e = record { sfits = ltb-true n (2 ^ 63) e }
bits-fit (negsuc n) e = record { sfits = ltb-true n (2 ^ 63) e }

pub int-read : (bs : List ℕ) (z : ℤ) → length bs ≢ 0
    → (IsNumeral 10 (without_leading_sign bs) × FitsSigned w64 (signed_digits_value 10 bs)) × (z ≡ signed_digits_value 10 bs)
    → Some (Int (to_z w64 (of_z w64 z))) ≡ int_value bs
int-read [] z n h = absurd (n refl)
int-read (b ∷ bs) z n h =
    rw (h.1, to_z-of_z w64 _ h.0.1, numeral-true _ h.0.0, bits-true _ h.0.1) refl

pub int-refused : (bs : List ℕ) → length bs ≢ 0
    → ¬ (IsNumeral 10 (without_leading_sign bs) × FitsSigned w64 (signed_digits_value 10 bs))
    → ◌≡◌ {A = Option Value} None (int_value bs)
int-refused [] n h = absurd (n refl)
int-refused (b ∷ bs) n h = elim (cases_Bool (is_numeral (without_leading_sign (b ∷ bs)) && is_64_bits (signed_digits_value 10 (b ∷ bs)))) [
  | inl t ↦ absurd (h (numeral-is _ (and-left _ _ t), bits-fit _ (and-right _ _ t)))
  | inr f ↦ rw f refl
]

-- one more test in front of two
turn : (p q r : Bool) → (p && (q && r)) ≡ (q && (p && r))
turn true true r = refl
turn true false r = refl
turn false true r = refl
turn false false r = refl

true-last : (b : Bool) → b ≡ (b && true)
true-last true = refl
true-last false = refl

pub null_mark-push : (front : List ℕ) (x : ℕ) → is_null_mark (front ++ x ∷ []) ≡ ((x == 78) && list_all (λ b. b == 92) front)
null_mark-push [] x = true-last (x == 78)
null_mark-push (b ∷ []) x = ap (λ (t : Bool). (b == 92) && t) (true-last (x == 78)) ∙ turn (b == 92) (x == 78) true
null_mark-push (b ∷ c ∷ rest) x =
    ap (λ (t : Bool). (b == 92) && t) (null_mark-push (c ∷ rest) x) ∙ turn (b == 92) (x == 78) _

pub null_mark-then : (bs front : List ℕ) (x : ℕ) (r : Bool) → bs ≡ front ++ x ∷ [] → x ≡ 78 → r ≡ list_all (λ b. b == 92) front → r ≡ is_null_mark bs
null_mark-then bs front x r e n h = rw (e, null_mark-push front x, n, h) refl

pub null_mark-else : (bs front : List ℕ) (x : ℕ) → bs ≡ front ++ x ∷ [] → (x ≡ 78 → ⊥) → (x == 78) ≡ is_null_mark bs
null_mark-else bs front x e n = elim (cases_Bool (x == 78)) [
  | inl t ↦ absurd (n (eqb-true x 78 t))
  | inr f ↦ rw (e, null_mark-push front x, f) refl
]

pub text-plain : (bs : List ℕ) → ((rest : List ℕ) → bs ≢ 92 ∷ rest) → Text bs ≡ text_value bs
text-plain [] h = refl
text-plain (b ∷ bs) h = elim (cases_Bool (b == 92)) [
  | inl t ↦ absurd (h bs (ap (λ (x : ℕ). x ∷ bs) (eqb-true b 92 t)))
  | inr f ↦ rw f refl
]
