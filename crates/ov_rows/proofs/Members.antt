-- Members of lists in another order, and lists that rise: two with the same members are the same.
use Rattle.std.proofs.Common.{◌≡◌, ◌⊎◌, List, [], ◌∷◌, ◌++◌, refl, sym, ◌∙◌, ap, subst, inl, inr}
use Rattle.std.specs.List.{AllByRecursion}
use Rattle.std.specs.List.Sorted.{IsPermutation}
use Rattle.std.specs.Cmp.{IsTotalOrder}
use Rattle.std.specs.Ordering.{ordering_reverse}
use Rattle.std.specs.declared.cmp.Ordering.{Ordering}
use Rattle.std.specs.declared.cmp.Ordering.TheVariants.{Less, Greater}
use Rattle.std.proofs.lemmas.List.Elements.{All-from_recursion, recursion_from_All}
use Rattle.std.proofs.lemmas.List.Sorted.{All-permutation, IsPermutation-sym}
use Rattle.ov_model.specs.Lists.{IsIn, IsBelow, Rises}

one_of : {X : Type 0} (P : X → Type 0) (xs : List X) (x : X) → AllByRecursion P xs → IsIn xs x → P x
one_of P [] x all is = absurd is
one_of P (y ∷ xs) x all (inl same) = subst P (sym same) all.0
one_of P (y ∷ xs) x all (inr later) = one_of P xs x all.1 later

all_are : {X : Type 0} (P : X → Type 0) (xs : List X) → ((x : X) → IsIn xs x → P x) → AllByRecursion P xs
all_are P [] h = tt
all_are P (x ∷ xs) h = (h x (inl refl), all_are P xs (λ y is. h y (inr is)))

-- a member is one in every order
pub carried : {X : Type 0} (xs ys : List X) (x : X) → IsPermutation xs ys → IsIn xs x → IsIn ys x
carried xs ys x moved is =
    one_of (IsIn ys) xs x
    (recursion_from_All (IsIn ys) xs (All-permutation (IsIn ys) ys xs (IsPermutation-sym xs ys moved) (All-from_recursion (IsIn ys) ys (all_are (IsIn ys) ys (λ y i. i)))))
    is

pub in_end : {X : Type 0} (xs : List X) (x : X) → IsIn (xs ++ x ∷ []) x
in_end [] x = inl refl
in_end (y ∷ xs) x = inr (in_end xs x)

pub in_more : {X : Type 0} (xs ys : List X) (x : X) → IsIn xs x → IsIn (xs ++ ys) x
in_more [] ys x is = absurd is
in_more (y ∷ xs) ys x (inl same) = inl same
in_more (y ∷ xs) ys x (inr later) = inr (in_more xs ys x later)

pub in_either : {X : Type 0} (xs : List X) (y x : X) → IsIn (xs ++ y ∷ []) x → IsIn xs x ⊎ (x ≡ y)
in_either [] y x (inl same) = inr same
in_either [] y x (inr none) = absurd none
in_either (z ∷ xs) y x (inl same) = inl (inl same)
in_either (z ∷ xs) y x (inr later) = elim (in_either xs y x later) [ inl is ↦ inl (inr is) | inr same ↦ inr same ]

module _ {X : Type 0} (R : X → X → Ordering) (o : IsTotalOrder R) where
  pub below_one : (x : X) (ys : List X) (y : X) → IsBelow R x ys → IsIn ys y → R x y ≡ Less
  below_one x [] y below is = absurd is
  below_one x (z ∷ ys) y below (inl same) = ap (R x) same ∙ below.0
  below_one x (z ∷ ys) y below (inr later) = below_one x ys y below.1 later

  pub below_all : (x y : X) (ys : List X) → R x y ≡ Less → IsBelow R y ys → IsBelow R x ys
  below_all x y [] less below = tt
  below_all x y (z ∷ ys) less below = (o.trans x y z less below.0, below_all x y ys less below.1)

  pub no_both : (x y : X) → R x y ≡ Less → R y x ≡ Less → ⊥
  no_both x y less more = wrong (sym less ∙ o.antisymm x y ∙ ap ordering_reverse more)
    where
      wrong : Less ≡ Greater → ⊥
      wrong e = cc

  same_heads : (x y : X) (xs ys : List X) → IsBelow R x xs → IsBelow R y ys → IsIn (y ∷ ys) x → IsIn (x ∷ xs) y → x ≡ y
  same_heads x y xs ys below_x below_y (inl same) there = same
  same_heads x y xs ys below_x below_y (inr later) (inl same) = sym same
  same_heads x y xs ys below_x below_y (inr later) (inr there) = absurd (no_both x y (below_one x xs y below_x there) (below_one y ys x below_y later))

  in_rest : (x y z : X) (xs ys : List X) → x ≡ y → IsBelow R x xs → IsIn xs z → IsIn (y ∷ ys) z → IsIn ys z
  in_rest x y z xs ys same below is (inl first) = let itself : R x x ≡ Less = ap (R x) (same ∙ sym first) ∙ below_one x xs z below is in absurd (no_both x x itself itself)
  in_rest x y z xs ys same below is (inr later) = later

  pub rising_same : (xs ys : List X) → Rises R xs → Rises R ys → ((x : X) → IsIn xs x → IsIn ys x) → ((x : X) → IsIn ys x → IsIn xs x) → xs ≡ ys
  rising_same [] [] up_x up_y to back = refl
  rising_same [] (y ∷ ys) up_x up_y to back = absurd (back y (inl refl))
  rising_same (x ∷ xs) [] up_x up_y to back = absurd (to x (inl refl))
  rising_same (x ∷ xs) (y ∷ ys) up_x up_y to back =
      let same : x ≡ y = same_heads x y xs ys up_x.0 up_y.0 (to x (inl refl)) (back y (inl refl))
      in let rest : xs ≡ ys =
      rising_same xs ys up_x.1 up_y.1
      (λ z is. in_rest x y z xs ys same up_x.0 is (to z (inr is)))
      (λ z is. in_rest y x z ys xs (sym same) up_y.0 is (back z (inr is)))
      in λ i. same i ∷ rest i
