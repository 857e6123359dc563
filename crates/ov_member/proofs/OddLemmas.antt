-- How many edges are left says whether the numbers before them are in.
use Rattle.std.proofs.Common.{◌≡◌, ◌≤◌, ◌%◌, ℕ, zero, suc, Bool, true, false, not, if◌then◌else◌, List, [], ◌∷◌, length, drop, refl, sym, ◌∙◌, ap, arith}
use Rattle.std.proofs.lemmas.Bool.{eq-eqb, ne_eqb}
use Rattle.ov_member.specs.Edges.{ends, is_odd}

pub odd_suc : (n : ℕ) → is_odd (suc n) ≡ not (is_odd n)
odd_suc n = by (n % 2) refl
  where
    by : (r : ℕ) → n % 2 ≡ r → is_odd (suc n) ≡ not (is_odd n)
    by zero e = eq-eqb (suc n % 2) 1 (omega (arith, e)) ∙ ap not (sym (ne_eqb (n % 2) 1 (λ one. omega (arith, e, one))))
    by (suc r) e = ne_eqb (suc n % 2) 1 (λ one. omega (arith, e, one)) ∙ ap not (sym (eq-eqb (n % 2) 1 (omega (arith, e))))

not_not : (b : Bool) → not (not b) ≡ b
not_not true = refl
not_not false = refl

pub closed_even : (edges : List ℕ) → ends false edges ≡ false → is_odd (length edges) ≡ false
closed_even [] closed = refl
closed_even (a ∷ []) closed = cc
closed_even (a ∷ b ∷ edges) closed = odd_suc (suc (length edges)) ∙ ap not (odd_suc (length edges)) ∙ not_not (is_odd (length edges)) ∙ closed_even edges closed

pub odd_rest : (edges : List ℕ) (edge : ℕ) (rest : List ℕ) → edges ≡ edge ∷ rest → is_odd (length rest) ≡ not (is_odd (length edges))
odd_rest edges edge rest is = sym (not_not (is_odd (length rest))) ∙ ap not (sym (odd_suc (length rest))) ∙ ap (λ l. not (is_odd (length l))) (sym is)

flips : (b : Bool) (n : ℕ) → (if is_odd n then not (not b) else not b) ≡ (if is_odd (suc n) then not b else b)
flips b n = ap (λ t. if is_odd n then t else not b) (not_not b) ∙ by (is_odd n) ∙ ap (λ t. if t then not b else b) (sym (odd_suc n))
  where
    by : (o : Bool) → (if o then b else not b) ≡ (if not o then not b else b)
    by true = refl
    by false = refl

pub odd_drop : (edges : List ℕ) (passed : ℕ) → passed ≤ length edges → is_odd (length (drop passed edges)) ≡ (if is_odd passed then not (is_odd (length edges)) else is_odd (length edges))
odd_drop edges zero low = refl
odd_drop [] (suc passed) low = absurd (omega (arith, low))
odd_drop (edge ∷ edges) (suc passed) low =
    odd_drop edges passed (omega (arith, low)) ∙ ap (λ b. if is_odd passed then not b else b) (odd_rest (edge ∷ edges) edge edges refl) ∙ flips (is_odd (length (edge ∷ edges))) passed
