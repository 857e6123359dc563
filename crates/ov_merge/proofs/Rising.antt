-- Of keys that rise each is the first of its own.
use Rattle.std.proofs.Common.{◌≡◌, ◌<◌, ◌+◌, ℕ, suc, true, false, List, [], ◌∷◌, length, get_or, refl, ap, subst, arith}
use Rattle.std.specs.Ordering.{is_eq, is_lt}
use Rattle.std.specs.declared.cmp.Ordering.{Ordering}
use Rattle.std.specs.declared.cmp.Ordering.TheVariants.{Less, Equal, Greater}
use Rattle.ov_merge.specs.Walks.{behind, once}

other : (o : Ordering) → is_lt o ≡ true → is_eq o ≡ false
other Less less = refl
other Equal less = cc
other Greater less = cc

module _ {X : Type 0} (R : X → X → Ordering) where
  Up : List X → Type 0
  Up xs = (k : ℕ) (none : X) → k + 1 < length xs → is_lt (R (get_or xs k none) (get_or xs (k + 1) none)) ≡ true

  behind_up : (x : X) (xs : List X) → Up (x ∷ xs) → behind R x xs ≡ xs
  unfolding Up
  behind_up x [] up = refl
  behind_up x (y ∷ xs) up =
      rw (other (R x y) (up 0 x (omega arith)))
      (ap (λ l. y ∷ l) (behind_up y xs (λ k none low. let next : suc k + 1 ≡ suc (k + 1) = omega arith in subst (λ n. is_lt (R (get_or (y ∷ xs) k none) (get_or (x ∷ y ∷ xs) n none)) ≡ true) next (up (suc k) none (omega (arith, low))))))

  pub once_up : (xs : List X) → ((k : ℕ) (none : X) → k + 1 < length xs → is_lt (R (get_or xs k none) (get_or xs (k + 1) none)) ≡ true) → once R xs ≡ xs
  unfolding Up
  once_up [] up = refl
  once_up (x ∷ xs) up = ap (λ l. x ∷ l) (behind_up x xs up)
