-- The digits of a number of up to eight.
use Rattle.std.proofs.Common.{◌≡◌, ◌<◌, ◌≤◌, ◌+◌, ◌*◌, ◌-◌, ◌/◌, ◌%◌, ◌++◌, ◌∷◌, ◌∙◌, [], ℕ, zero, suc, Bool, true, IsTrue, List, get_or, refl, ap, subst, append_assoc, arith}
use Rattle.std.specs.Prelude.{◌&&◌, ◌==◌}
use Rattle.std.specs.Fmt.{decimal}
use Rattle.std.proofs.lemmas.Bool.{eqb-true}
use Rattle.std.proofs.lemmas.Fmt.{decimal_digit, decimal_step}
use Rattle.ov_csv.specs.declared.numbers.TheConstants.{PAIRS}
use Rattle.ov_csv.proofs.Spelled.{and-left, and-right}

-- ---- the table of pairs

abbrev are_pairs : ℕ → Bool
are_pairs zero = true
are_pairs (suc p) = (get_or PAIRS (2 * p) 0 == 48 + p / 10) && ((get_or PAIRS (2 * p + 1) 0 == 48 + p % 10) && are_pairs p)

pub record IsPair (p : ℕ) : Type 0 where
  pub tens : get_or PAIRS (2 * p) 0 ≡ 48 + p / 10
  pub ones : get_or PAIRS (2 * p + 1) 0 ≡ 48 + p % 10

below : (n p : ℕ) → IsTrue (are_pairs n) → p < n → IsPair p
below zero p all low = absurd (omega (arith, low))
below (suc n) p all low =
    let others : IsTrue ((get_or PAIRS (2 * n + 1) 0 == 48 + n % 10) && are_pairs n) = and-right (get_or PAIRS (2 * n) 0 == 48 + n / 10) _ all in
    by (n - p) refl (eqb-true _ _ (and-left _ _ all)) (eqb-true _ _ (and-left _ _ others)) (below n p (and-right (get_or PAIRS (2 * n + 1) 0 == 48 + n % 10) (are_pairs n) others))
  where
    by : (k : ℕ) → n - p ≡ k → get_or PAIRS (2 * n) 0 ≡ 48 + n / 10 → get_or PAIRS (2 * n + 1) 0 ≡ 48 + n % 10 → (p < n → IsPair p) → IsPair p
    by zero e tens ones later = let same : n ≡ p = omega (arith, e, low) in subst IsPair same (record { tens = tens; ones = ones })
    by (suc k) e tens ones later = later (omega (arith, e))

pub pair_at : (p : ℕ) → p < 100 → IsPair p
pair_at p low = below 100 p refl low

-- ---- the digits of a number by those of its pairs

pub two_digits : (n : ℕ) → 10 ≤ n → n < 100 → decimal n ≡ (48 + n / 10) ∷ (48 + n % 10) ∷ []
two_digits n low high = decimal_step n low (omega (arith, high)) ∙ ap (λ l. l ++ (48 + n % 10) ∷ []) (decimal_digit (n / 10) (omega (arith, high)))

-- the last two digits behind the others
pub last_two : (n : ℕ) → 100 ≤ n → n < 100000000 → decimal n ≡ decimal (n / 100) ++ (48 + n % 100 / 10) ∷ (48 + n % 100 % 10) ∷ []
last_two n low high =
    let a : n / 10 / 10 ≡ n / 100 = omega arith in
    let b : n / 10 % 10 ≡ n % 100 / 10 = omega arith in
    let c : n % 10 ≡ n % 100 % 10 = omega arith in
    decimal_step n (omega (arith, low)) (omega (arith, high))
    ∙ ap (λ l. l ++ (48 + n % 10) ∷ []) (decimal_step (n / 10) (omega (arith, low)) (omega (arith, high)))
    ∙ append_assoc (decimal (n / 10 / 10)) ((48 + n / 10 % 10) ∷ []) ((48 + n % 10) ∷ [])
    ∙ (λ i. decimal (a i) ++ (48 + b i) ∷ (48 + c i) ∷ [])

-- the last four digits behind the others
pub last_four : (n : ℕ) → 10000 ≤ n → n < 100000000
    → decimal n ≡ decimal (n / 10000) ++ (48 + n % 10000 / 100 / 10) ∷ (48 + n % 10000 / 100 % 10) ∷ (48 + n % 10000 % 100 / 10) ∷ (48 + n % 10000 % 100 % 10) ∷ []
last_four n low high =
    let a : n / 100 / 100 ≡ n / 10000 = omega arith in
    let b : n / 100 % 100 ≡ n % 10000 / 100 = omega arith in
    let c : n % 100 ≡ n % 10000 % 100 = omega arith in
    let last : List ℕ = (48 + n % 100 / 10) ∷ (48 + n % 100 % 10) ∷ [] in
    last_two n (omega (arith, low)) high
    ∙ ap (λ l. l ++ last) (last_two (n / 100) (omega (arith, low)) (omega (arith, high)))
    ∙ append_assoc (decimal (n / 100 / 100)) ((48 + n / 100 % 100 / 10) ∷ (48 + n / 100 % 100 % 10) ∷ []) last
    ∙ (λ i. decimal (a i) ++ (48 + b i / 10) ∷ (48 + b i % 10) ∷ (48 + c i / 10) ∷ (48 + c i % 10) ∷ [])
