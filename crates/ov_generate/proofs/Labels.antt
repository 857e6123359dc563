-- The texts of rows that may be drawn.
use Rattle.std.proofs.Common.{◌≡◌, ◌≤◌, ◌<◌, ◌+◌, ◌-◌, ◌*◌, ◌/◌, ◌%◌, ◌⊎◌, inl, inr, ℕ, List, [], ◌∷◌, ◌++◌, codes, length, get_or, refl, sym, ◌∙◌, ap, arith}
use Rattle.std.specs.Fmt.{decimal}
use Rattle.std.proofs.lemmas.Fmt.{decimal_digit}
use Rattle.itoa.proofs.Decimal.{decimal_two}
use Rattle.ov_generate.specs.Rows.{IsLabel}

label_text : (text : List ℕ) (number : ℕ) → text ≡ codes "t" ++ decimal number → number < 100
    → ((number < 10) × (text ≡ 116 ∷ (48 + number) ∷ [])) ⊎ ((10 ≤ number) × (text ≡ 116 ∷ (48 + number / 10) ∷ (48 + number % 10) ∷ []))
label_text text number is small =
    elim (low_or number) [
      | inl low ↦ inl (low, is ∙ ap (λ d. codes "t" ++ d) (decimal_digit number low))
      | inr high ↦ inr (high, is ∙ ap (λ d. codes "t" ++ d) (decimal_two number high small))
    ]
  where
    low_or : (n : ℕ) → (n < 10) ⊎ (10 ≤ n)
    low_or n = grind arith

pub label_long : (text : List ℕ) → IsLabel text → (length text ≡ 2) ⊎ (length text ≡ 3)
label_long text is =
    elim (label_text text is.number is.is is.small) [ inl two ↦ inl (ap length two.1) | inr three ↦ inr (ap length three.1) ]

pub two_are : (text : List ℕ) → length text ≡ 2 → text ≡ get_or text 0 0 ∷ get_or text 1 0 ∷ []
two_are [] e = absurd cc
two_are (a ∷ []) e = absurd (let no : ⊥ = omega (arith, e) in no)
two_are (a ∷ b ∷ []) e = refl
two_are (a ∷ b ∷ c ∷ rest) e = absurd (let no : ⊥ = omega (arith, e) in no)

pub three_are : (text : List ℕ) → length text ≡ 3 → text ≡ get_or text 0 0 ∷ get_or text 1 0 ∷ get_or text 2 0 ∷ []
three_are [] e = absurd cc
three_are (a ∷ []) e = absurd (let no : ⊥ = omega (arith, e) in no)
three_are (a ∷ b ∷ []) e = absurd (let no : ⊥ = omega (arith, e) in no)
three_are (a ∷ b ∷ c ∷ []) e = refl
three_are (a ∷ b ∷ c ∷ d ∷ rest) e = absurd (let no : ⊥ = omega (arith, e) in no)

pub two_label : (text : List ℕ) (a b : ℕ) → text ≡ a ∷ b ∷ [] → IsLabel text → (a ≡ 116) × (48 ≤ b) × (b ≤ 57)
two_label text a b same is =
    elim (label_text text is.number is.is is.small) [
      | inl two ↦
          let e = sym same ∙ two.1
          in let second : b ≡ 48 + is.number = ap (λ l. get_or l 1 0) e
          in (ap (λ l. get_or l 0 0) e, omega (arith, second), omega (arith, second, two.0))
      | inr three ↦ let e : 2 ≡ 3 = ap length (sym same ∙ three.1) in omega (arith, e)
    ]

pub label_two : (text : List ℕ) (a b : ℕ) → text ≡ a ∷ b ∷ [] → (a ≡ 116) × (48 ≤ b) × (b ≤ 57) → IsLabel text
label_two text a b same is =
    let low : b - 48 < 10 = omega (arith, is.1, is.2)
    in let back : 48 + (b - 48) ≡ b = omega (arith, is.1)
    in record {
      number = b - 48;
      small = omega (arith, low);
      is = same ∙ ap (λ x. x ∷ b ∷ []) is.0 ∙ ap (λ x. 116 ∷ x ∷ []) (sym back) ∙ ap (λ d. codes "t" ++ d) (sym (decimal_digit (b - 48) low));
    }

tens : (h l : ℕ) → l < 10 → (10 * h + l) / 10 ≡ h
tens h l low = grind arith

ones : (h l : ℕ) → l < 10 → (10 * h + l) % 10 ≡ l
ones h l low = grind arith

pub label_three : (text : List ℕ) (a b c : ℕ) → text ≡ a ∷ b ∷ c ∷ [] → (a ≡ 116) × (49 ≤ b) × (b ≤ 57) × (48 ≤ c) × (c ≤ 57) → IsLabel text
label_three text a b c same is =
    let h : ℕ = b - 48
    in let l : ℕ = c - 48
    in let number : ℕ = 10 * h + l
    in let low : l < 10 = omega (arith, is.3, is.4)
    in let some : 10 ≤ number = omega (arith, is.1)
    in let small : number < 100 = omega (arith, is.2, low)
    in let high_is : 48 + number / 10 ≡ b = let e = tens h l low in omega (arith, e, is.1)
    in let low_is : 48 + number % 10 ≡ c = let e = ones h l low in omega (arith, e, is.3)
    in record {
      number = number;
      small = small;
      is = same ∙ ap (λ x. x ∷ b ∷ c ∷ []) is.0 ∙ ap (λ x. 116 ∷ x ∷ c ∷ []) (sym high_is) ∙ ap (λ x. 116 ∷ (48 + number / 10) ∷ x ∷ []) (sym low_is)
          ∙ ap (λ d. codes "t" ++ d) (sym (decimal_two number some small));
    }

above_ten : (n : ℕ) → 10 ≤ n → 1 ≤ n / 10
above_ten n some = grind arith

below_ten : (n : ℕ) → n < 100 → n / 10 ≤ 9
below_ten n small = grind arith

rest_ten : (n : ℕ) → n % 10 ≤ 9
rest_ten n = grind arith

pub three_label : (text : List ℕ) (a b c : ℕ) → text ≡ a ∷ b ∷ c ∷ [] → IsLabel text → (a ≡ 116) × (49 ≤ b) × (b ≤ 57) × (48 ≤ c) × (c ≤ 57)
three_label text a b c same is =
    elim (label_text text is.number is.is is.small) [
      | inl two ↦ let e : 3 ≡ 2 = ap length (sym same ∙ two.1) in omega (arith, e)
      | inr three ↦
          let e = sym same ∙ three.1
          in let second : b ≡ 48 + is.number / 10 = ap (λ l. get_or l 1 0) e
          in let third : c ≡ 48 + is.number % 10 = ap (λ l. get_or l 2 0) e
          in (
            ap (λ l. get_or l 0 0) e,
            omega (arith, second, above_ten is.number three.0),
            omega (arith, second, below_ten is.number is.small),
            omega (arith, third),
            omega (arith, third, rest_ten is.number),
          )
    ]
