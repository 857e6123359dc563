-- The end of a walk over two lists.
use Rattle.std.proofs.Common.{◌≡◌, ◌⊎◌, ◌≤◌, ℕ, List, [], ◌∷◌, ◌++◌, length, drop, refl, sym, ◌∙◌, ap, inl, inr}
use Rattle.std.proofs.lemmas.List.{drop_all, append-nil}
use Rattle.std.specs.declared.cmp.Ordering.{Ordering}
use Rattle.ov_merge.specs.Walks.{both}

both_none : {X : Type 0} (R : X → X → Ordering) (xs : List X) → both R xs [] ≡ xs
both_none R [] = refl
both_none R (x ∷ xs) = ap (λ l. x ∷ l) (both_none R xs)

-- one of the lists is at its end, and what is left of both is the rest
pub both_end : {X : Type 0} (R : X → X → Ordering) (xs ys : List X) (i j : ℕ) → (length xs ≤ i) ⊎ (length ys ≤ j)
    → drop i xs ++ drop j ys ≡ both R (drop i xs) (drop j ys)
both_end R xs ys i j (inl end) =
    let none : drop i xs ≡ [] = drop_all i xs end
    in ap (λ l. l ++ drop j ys) none ∙ sym (ap (λ l. both R l (drop j ys)) none)
both_end R xs ys i j (inr end) =
    let none : drop j ys ≡ [] = drop_all j ys end
    in ap (λ l. drop i xs ++ l) none ∙ append-nil (drop i xs) ∙ sym (ap (both R (drop i xs)) none ∙ both_none R (drop i xs))
