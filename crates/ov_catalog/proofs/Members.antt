-- Members of lists, of sorted lists, and of lists that rise.
use Rattle.std.proofs.Common.{◌≡◌, ◌⊎◌, ℕ, Bool, true, false, List, [], ◌∷◌, ◌++◌, map, refl, sym, ◌∙◌, ap, subst, inl, inr}
use Rattle.std.specs.Prelude.{nat_le, if◌then◌else◌}
use Rattle.std.specs.List.{All}
use Rattle.std.specs.Cmp.{IsTotalOrder}
use Rattle.std.specs.Ordering.{ordering_reverse}
use Rattle.std.specs.declared.cmp.Ordering.{Ordering}
use Rattle.std.specs.declared.cmp.Ordering.TheVariants.{Less, Greater}
use Rattle.std.proofs.lemmas.List.Elements.{All-head, All-tail}
use Rattle.ov_model.specs.Lists.{IsIn, IsBelow, Rises}
use Rattle.ov_catalog.specs.Shown.{put_by, sorted_by}

pub all_at : {X : Type 0} (P : X → Type 0) (xs : List X) (x : X) → All P xs → IsIn xs x → P x
all_at P [] x all is = absurd is
all_at P (y ∷ ys) x all (inl same) = subst P (sym same) (All-head P y ys all)
all_at P (y ∷ ys) x all (inr later) = all_at P ys x (All-tail P y ys all) later

pub left_in : {X : Type 0} (xs ys : List X) (x : X) → IsIn xs x → IsIn (xs ++ ys) x
left_in [] ys x is = absurd is
left_in (y ∷ xs) ys x (inl same) = inl same
left_in (y ∷ xs) ys x (inr later) = inr (left_in xs ys x later)

pub right_in : {X : Type 0} (xs ys : List X) (x : X) → IsIn ys x → IsIn (xs ++ ys) x
right_in [] ys x is = is
right_in (y ∷ xs) ys x is = inr (right_in xs ys x is)

later_or : {X : Type 0} (x y : X) (xs ys : List X) → IsIn xs x ⊎ IsIn ys x → IsIn (y ∷ xs) x ⊎ IsIn ys x
later_or x y xs ys (inl is) = inl (inr is)
later_or x y xs ys (inr is) = inr is

pub of_append : {X : Type 0} (xs ys : List X) (x : X) → IsIn (xs ++ ys) x → IsIn xs x ⊎ IsIn ys x
of_append [] ys x is = inr is
of_append (y ∷ xs) ys x (inl same) = inl (inl same)
of_append (y ∷ xs) ys x (inr later) = later_or x y xs ys (of_append xs ys x later)

pub in_map : {X Y : Type 0} (f : X → Y) (xs : List X) (x : X) → IsIn xs x → IsIn (map f xs) (f x)
in_map f [] x is = absurd is
in_map f (y ∷ xs) x (inl same) = inl (ap f same)
in_map f (y ∷ xs) x (inr later) = inr (in_map f xs x later)

-- a member of a list that was mapped is of one of those there
pub of_map : {X Y : Type 0} (f : X → Y) (xs : List X) (y : Y) → IsIn (map f xs) y → (x : X) × (IsIn xs x × (y ≡ f x))
of_map f [] y is = absurd is
of_map f (x ∷ xs) y (inl same) = (x, (inl refl, same))
of_map f (x ∷ xs) y (inr later) = ((of_map f xs y later).0, (inr (of_map f xs y later).1.0, (of_map f xs y later).1.1))

-- ---- sorting keeps the members

in_put : {X : Type 0} (key : X → ℕ) (x : X) (xs : List X) (z : X) → (z ≡ x) ⊎ IsIn xs z → IsIn (put_by key x xs) z
in_put key x [] z (inl same) = inl same
in_put key x [] z (inr is) = absurd is
in_put {X} key x (y ∷ ys) z is = by (nat_le (key x) (key y)) (in_put key x ys z) is
  where
    by : (b : Bool) → ((z ≡ x) ⊎ IsIn ys z → IsIn (put_by key x ys) z) → (z ≡ x) ⊎ IsIn (y ∷ ys) z → IsIn (if b then x ∷ y ∷ ys else y ∷ put_by key x ys) z
    by true rest (inl same) = inl same
    by true rest (inr there) = inr there
    by false rest (inl same) = inr (rest (inl same))
    by false rest (inr (inl same)) = inl same
    by false rest (inr (inr later)) = inr (rest (inr later))

of_put : {X : Type 0} (key : X → ℕ) (x : X) (xs : List X) (z : X) → IsIn (put_by key x xs) z → (z ≡ x) ⊎ IsIn xs z
of_put key x [] z (inl same) = inl same
of_put key x [] z (inr is) = absurd is
of_put {X} key x (y ∷ ys) z is = by (nat_le (key x) (key y)) (of_put key x ys z) is
  where
    further : (z ≡ x) ⊎ IsIn ys z → (z ≡ x) ⊎ IsIn (y ∷ ys) z
    further (inl same) = inl same
    further (inr later) = inr (inr later)

    by : (b : Bool) → (IsIn (put_by key x ys) z → (z ≡ x) ⊎ IsIn ys z) → IsIn (if b then x ∷ y ∷ ys else y ∷ put_by key x ys) z → (z ≡ x) ⊎ IsIn (y ∷ ys) z
    by true rest (inl same) = inl same
    by true rest (inr there) = inr there
    by false rest (inl same) = inr (inl same)
    by false rest (inr later) = further (rest later)

put_or : {X : Type 0} (z x : X) (xs ys : List X) → (IsIn xs z → IsIn ys z) → IsIn (x ∷ xs) z → (z ≡ x) ⊎ IsIn ys z
put_or z x xs ys more (inl same) = inl same
put_or z x xs ys more (inr later) = inr (more later)

or_put : {X : Type 0} (z x : X) (xs ys : List X) → (IsIn ys z → IsIn xs z) → (z ≡ x) ⊎ IsIn ys z → IsIn (x ∷ xs) z
or_put z x xs ys more (inl same) = inl same
or_put z x xs ys more (inr later) = inr (more later)

pub in_sorted : {X : Type 0} (key : X → ℕ) (xs : List X) (z : X) → IsIn xs z → IsIn (sorted_by key xs) z
in_sorted key [] z is = is
in_sorted key (x ∷ xs) z is = in_put key x (sorted_by key xs) z (put_or z x xs (sorted_by key xs) (in_sorted key xs z) is)

pub of_sorted : {X : Type 0} (key : X → ℕ) (xs : List X) (z : X) → IsIn (sorted_by key xs) z → IsIn xs z
of_sorted key [] z is = is
of_sorted key (x ∷ xs) z is = or_put z x xs (sorted_by key xs) (of_sorted key xs z) (of_put key x (sorted_by key xs) z is)

-- ---- two lists that rise and have the same members are the same

module _ {X : Type 0} (R : X → X → Ordering) (total : IsTotalOrder R) where
  below_at : (x : X) (ys : List X) (y : X) → IsBelow R x ys → IsIn ys y → R x y ≡ Less
  below_at x [] y below is = absurd is
  below_at x (z ∷ ys) y below (inl same) = subst (λ k. R x k ≡ Less) (sym same) below.0
  below_at x (z ∷ ys) y below (inr later) = below_at x ys y below.1 later

  no_both : (x y : X) → R x y ≡ Less → R y x ≡ Less → ⊥
  no_both x y less more = clash (sym less ∙ total.antisymm x y ∙ ap ordering_reverse more)
    where
      clash : Less ≡ Greater → ⊥
      clash e = cc

  first_same : (x y : X) (xs ys : List X) → IsBelow R x xs → IsBelow R y ys → (x ≡ y) ⊎ IsIn ys x → (y ≡ x) ⊎ IsIn xs y → x ≡ y
  first_same x y xs ys below above (inl same) there = same
  first_same x y xs ys below above (inr here) (inl same) = sym same
  first_same x y xs ys below above (inr here) (inr there) = absurd (no_both x y (below_at x xs y below there) (below_at y ys x above here))

  -- what is above the first is among the others
  not_first : (x y z : X) (ys : List X) → R x z ≡ Less → x ≡ y → (z ≡ y) ⊎ IsIn ys z → IsIn ys z
  not_first x y z ys less first (inl same) =
      let self : R x x ≡ Less = subst (λ k. R x k ≡ Less) (same ∙ sym first) less
      in absurd (no_both x x self self)
  not_first x y z ys less first (inr later) = later

  pub same_rising : (xs ys : List X) → Rises R xs → Rises R ys → ((x : X) → IsIn xs x → IsIn ys x) → ((y : X) → IsIn ys y → IsIn xs y) → xs ≡ ys
  same_rising [] [] rise other forth back = refl
  same_rising [] (y ∷ ys) rise other forth back = absurd (back y (inl refl))
  same_rising (x ∷ xs) [] rise other forth back = absurd (forth x (inl refl))
  same_rising (x ∷ xs) (y ∷ ys) rise other forth back =
      let head : x ≡ y = first_same x y xs ys rise.0 other.0 (forth x (inl refl)) (back y (inl refl))
      in let tail : xs ≡ ys = same_rising xs ys rise.1 other.1
      (λ z is. not_first x y z ys (below_at x xs z rise.0 is) head (forth z (inr is)))
      (λ z is. not_first y x z xs (below_at y ys z other.0 is) (sym head) (back z (inr is)))
      in λ i. head i ∷ tail i

-- ---- equations of lists

abbrev head_or : {X : Type 0} → List X → X → X
head_or [] x = x
head_or (y ∷ ys) x = y

abbrev tail_of : {X : Type 0} → List X → List X
tail_of [] = []
tail_of (x ∷ xs) = xs

pub heads : {X : Type 0} (x y : X) (xs ys : List X) → x ∷ xs ≡ y ∷ ys → x ≡ y
heads x y xs ys e = ap (λ l. head_or l x) e

pub tails : {X : Type 0} (x y : X) (xs ys : List X) → x ∷ xs ≡ y ∷ ys → xs ≡ ys
tails x y xs ys e = ap tail_of e
