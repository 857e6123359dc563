-- A total order up to ties, and lists that rise by it.
use Rattle.std.proofs.Common.{◌≡◌, Bool, true, false, List, [], ◌∷◌, ◌++◌, refl, sym, ◌∙◌, ap, inl, inr}
use Rattle.std.specs.Prelude.{◌||◌}
use Rattle.std.specs.List.{list_any}
use Rattle.std.specs.Cmp.{IsTotalOrder}
use Rattle.std.specs.Ordering.{is_eq, is_lt, ordering_reverse}
use Rattle.std.specs.declared.cmp.Ordering.{Ordering}
use Rattle.std.specs.declared.cmp.Ordering.TheVariants.{Less, Equal, Greater}
use Rattle.ov_model.specs.Lists.{IsIn, IsBelow, Rises}

pub clash : false ≡ true → ⊥
clash e = cc

pub or_none : (a b : Bool) → a ≡ false → b ≡ false → (a || b) ≡ false
or_none true b e f = cc
or_none false b e f = f

pub left_none : (a b : Bool) → (a || b) ≡ false → a ≡ false
left_none true b e = cc
left_none false b e = refl

pub right_none : (a b : Bool) → (a || b) ≡ false → b ≡ false
right_none true b e = cc
right_none false b e = e

pub is_equal : (o : Ordering) → is_eq o ≡ true → o ≡ Equal
is_equal Less e = cc
is_equal Equal e = refl
is_equal Greater e = cc

-- neither below nor tied
above : (o : Ordering) → is_lt o ≡ false → is_eq o ≡ false → ordering_reverse o ≡ Less
above Less e f = cc
above Equal e f = cc
above Greater e f = refl

eq_reverse : (o : Ordering) → is_eq (ordering_reverse o) ≡ is_eq o
eq_reverse Less = refl
eq_reverse Equal = refl
eq_reverse Greater = refl

pub in_append-left : {X : Type 0} (xs ys : List X) (x : X) → IsIn xs x → IsIn (xs ++ ys) x
in_append-left [] ys x is = absurd is
in_append-left (y ∷ xs) ys x (inl same) = inl same
in_append-left (y ∷ xs) ys x (inr later) = inr (in_append-left xs ys x later)

-- whether one of these ties with it
abbrev pub has : {X : Type 0} → (X → X → Ordering) → List X → X → Bool
has R ys x = list_any (λ y. is_eq (R x y)) ys

module _ {X : Type 0} (R : X → X → Ordering) (o : IsTotalOrder R) where
  pub flip : (a b : X) → R a b ≡ ordering_reverse (R b a)
  flip a b = o.antisymm a b

  pub tie-sym : (a b : X) → is_eq (R a b) ≡ is_eq (R b a)
  tie-sym a b = ap is_eq (flip a b) ∙ eq_reverse (R b a)

  pub not_tied : (a b : X) → R a b ≡ Less → is_eq (R a b) ≡ false
  not_tied a b less = ap is_eq less

  pub not_tied_back : (a b : X) → R a b ≡ Less → is_eq (R b a) ≡ false
  not_tied_back a b less = tie-sym b a ∙ not_tied a b less

  pub greater_back : (a b : X) → R a b ≡ Greater → R b a ≡ Less
  greater_back a b greater = flip b a ∙ ap ordering_reverse greater

  pub less_same : (a b c : X) → R a b ≡ Equal → R b c ≡ Less → R a c ≡ Less
  less_same a b c same less = o.congr a b c same ∙ less

  pub above_is : (a b : X) → is_lt (R b a) ≡ false → is_eq (R b a) ≡ false → R a b ≡ Less
  above_is a b not_below not_tie = flip a b ∙ above (R b a) not_below not_tie

  pub below_one : (x : X) (ys : List X) (y : X) → IsBelow R x ys → IsIn ys y → R x y ≡ Less
  below_one x [] y below is = absurd is
  below_one x (z ∷ ys) y below (inl same) = ap (R x) same ∙ below.0
  below_one x (z ∷ ys) y below (inr later) = below_one x ys y below.1 later

  pub below_each : (x : X) (ys : List X) → ((y : X) → IsIn ys y → R x y ≡ Less) → IsBelow R x ys
  below_each x [] h = tt
  below_each x (y ∷ ys) h = (h y (inl refl), below_each x ys (λ z is. h z (inr is)))

  pub below_all : (x y : X) (ys : List X) → R x y ≡ Less → IsBelow R y ys → IsBelow R x ys
  below_all x y [] less below = tt
  below_all x y (z ∷ ys) less below = (o.trans x y z less below.0, below_all x y ys less below.1)

  pub none_has : (ys : List X) (x y : X) → has R ys x ≡ false → IsIn ys y → is_eq (R x y) ≡ false
  none_has [] x y none is = absurd is
  none_has (z ∷ ys) x y none (inl same) = ap (λ w. is_eq (R x w)) same ∙ left_none (is_eq (R x z)) (has R ys x) none
  none_has (z ∷ ys) x y none (inr later) = none_has ys x y (right_none (is_eq (R x z)) (has R ys x) none) later

  pub has_none : (ys : List X) (x : X) → ((y : X) → IsIn ys y → is_eq (R x y) ≡ false) → has R ys x ≡ false
  has_none [] x h = refl
  has_none (y ∷ ys) x h = or_none (is_eq (R x y)) (has R ys x) (h y (inl refl)) (has_none ys x (λ z is. h z (inr is)))

  -- below all of these, it ties with none
  pub below_has : (x : X) (ys : List X) → IsBelow R x ys → has R ys x ≡ false
  below_has x ys below = has_none ys x (λ y is. not_tied x y (below_one x ys y below is))

  no_both : (x y : X) → R x y ≡ Less → R y x ≡ Less → ⊥
  no_both x y less more = wrong (sym less ∙ flip x y ∙ ap ordering_reverse more)
    where
      wrong : Less ≡ Greater → ⊥
      wrong e = cc

  pub not_itself : (x : X) → R x x ≡ Less → ⊥
  not_itself x less = no_both x x less less

  -- ---- lists that rise and have the same members are the same

  same_heads : (x y : X) (xs ys : List X) → IsBelow R x xs → IsBelow R y ys → IsIn (y ∷ ys) x → IsIn (x ∷ xs) y → x ≡ y
  same_heads x y xs ys below_x below_y (inl same) there = same
  same_heads x y xs ys below_x below_y (inr later) (inl same) = sym same
  same_heads x y xs ys below_x below_y (inr later) (inr there) = absurd (no_both x y (below_one x xs y below_x there) (below_one y ys x below_y later))

  in_rest : (x y z : X) (xs ys : List X) → x ≡ y → IsBelow R x xs → IsIn xs z → IsIn (y ∷ ys) z → IsIn ys z
  in_rest x y z xs ys same below is (inl first) = absurd (not_itself x (ap (R x) (same ∙ sym first) ∙ below_one x xs z below is))
  in_rest x y z xs ys same below is (inr later) = later

  pub rising_same : (xs ys : List X) → Rises R xs → Rises R ys → ((x : X) → IsIn xs x → IsIn ys x) → ((x : X) → IsIn ys x → IsIn xs x) → xs ≡ ys
  rising_same [] [] up_x up_y to back = refl
  rising_same [] (y ∷ ys) up_x up_y to back = absurd (back y (inl refl))
  rising_same (x ∷ xs) [] up_x up_y to back = absurd (to x (inl refl))
  rising_same (x ∷ xs) (y ∷ ys) up_x up_y to back =
      let same : x ≡ y = same_heads x y xs ys up_x.0 up_y.0 (to x (inl refl)) (back y (inl refl))
      in let rest : xs ≡ ys =
      rising_same xs ys up_x.1 up_y.1
      (λ z is. in_rest x y z xs ys same up_x.0 is (to z (inr is)))
      (λ z is. in_rest y x z ys xs (sym same) up_y.0 is (back z (inr is)))
      in λ i. same i ∷ rest i
