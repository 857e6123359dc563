-- What the walks of lists give: the first of each key, in order.
use Rattle.std.proofs.Common.{◌≡◌, ◌⊎◌, Bool, true, false, List, [], ◌∷◌, ◌++◌, refl, sym, ◌∙◌, ap, inl, inr}
use Rattle.std.specs.Prelude.{◌||◌, if◌then◌else◌}
use Rattle.std.specs.Cmp.{IsTotalOrder}
use Rattle.std.specs.Ordering.{is_eq, is_lt}
use Rattle.std.specs.declared.cmp.Ordering.{Ordering}
use Rattle.std.specs.declared.cmp.Ordering.TheVariants.{Less, Equal, Greater}
use Rattle.std.proofs.lemmas.Bool.{cases_Bool}
use Rattle.std.proofs.lemmas.Cmp.{alike_right}
use Rattle.ov_model.specs.Lists.{IsIn, IsBelow, Rises}
use Rattle.ov_merge.specs.Places.{IsFirstIn, IsMerge}
use Rattle.ov_merge.specs.Walks.{by_order, both_from, both, behind, once}
use Rattle.ov_merge.proofs.Orders.{clash, or_none, left_none, right_none, is_equal, tie-sym, not_tied_back, greater_back, less_same, above_is, below_one, below_each, below_all, has, none_has, has_none, below_has}

module _ {X : Type 0} (R : X → X → Ordering) (o : IsTotalOrder R) where
  -- ---- two lists as one

  -- in the first list, or in the second with no tie in the first
  abbrev Either : List X → List X → X → Type 0
  Either xs ys x = IsIn xs x ⊎ (IsIn ys x × (has R xs x ≡ false))

  -- what one step takes from: the rest of the walk is right
  abbrev WalksIn : X → List X → (List X → List X) → Type 0
  WalksIn x xs rest = (ys : List X) → Rises R ys → (z : X) → IsIn (rest ys) z → Either xs ys z

  step_in : (r : Ordering) (x y : X) (xs ys : List X) (rest : List X → List X) (later : List X) → R x y ≡ r → IsBelow R x xs → Rises R (y ∷ ys)
      → WalksIn x xs rest → ((z : X) → IsIn later z → Either (x ∷ xs) ys z)
      → (z : X) → IsIn (by_order r (x ∷ rest (y ∷ ys)) (x ∷ rest ys) (y ∷ later)) z → Either (x ∷ xs) (y ∷ ys) z
  step_in Less x y xs ys rest later is below up walks goes z (inl first) = inl (inl first)
  step_in Less x y xs ys rest later is below up walks goes z (inr there) = elim (walks (y ∷ ys) up z there) [
    | inl left ↦ inl (inr left)
    | inr right ↦
        inr (right.0, or_none (is_eq (R z x)) (has R xs z) (not_tied_back R o x z (below_one R o x (y ∷ ys) z (is, below_all R o x y ys is up.0) right.0)) right.1)
  ]
  step_in Equal x y xs ys rest later is below up walks goes z (inl first) = inl (inl first)
  step_in Equal x y xs ys rest later is below up walks goes z (inr there) = elim (walks ys up.1 z there) [
    | inl left ↦ inl (inr left)
    | inr right ↦
        inr (inr right.0, or_none (is_eq (R z x)) (has R xs z) (not_tied_back R o x z (less_same R o x y z is (below_one R o y ys z up.0 right.0))) right.1)
  ]
  step_in Greater x y xs ys rest later is below up walks goes z (inl first) =
      let less = greater_back R o x y is
      in inr (inl first, ap (has R (x ∷ xs)) first ∙ below_has R o y (x ∷ xs) (less, below_all R o y x xs less below))
  step_in Greater x y xs ys rest later is below up walks goes z (inr there) = elim (goes z there) [
    | inl left ↦ inl left
    | inr right ↦ inr (inr right.0, right.1)
  ]

  from_in : (x : X) (xs ys : List X) (rest : List X → List X) → IsBelow R x xs → Rises R ys → WalksIn x xs rest
      → (z : X) → IsIn (both_from R x rest ys) z → Either (x ∷ xs) ys z
  from_in x xs [] rest below up walks z (inl first) = inl (inl first)
  from_in x xs [] rest below up walks z (inr there) = elim (walks [] tt z there) [ inl left ↦ inl (inr left) | inr right ↦ absurd right.0 ]
  from_in x xs (y ∷ ys) rest below up walks z is =
      step_in (R x y) x y xs ys rest (both_from R x rest ys) refl below up walks (from_in x xs ys rest below up.1 walks) z is

  pub in_both : (xs ys : List X) → Rises R xs → Rises R ys → (z : X) → IsIn (both R xs ys) z → Either xs ys z
  in_both [] ys up_x up_y z is = inr (is, refl)
  in_both (x ∷ xs) ys up_x up_y z is = from_in x xs ys (both R xs) up_x.0 up_y (λ l up. in_both xs l up_x.1 up) z is

  -- and back

  abbrev WalksBack : X → List X → (List X → List X) → Type 0
  WalksBack x xs rest = (ys : List X) → (z : X) → Either xs ys z → IsIn (rest ys) z

  one_less : (x y z : X) (xs : List X) → has R (x ∷ xs) z ≡ false → has R xs z ≡ false
  one_less x y z xs none = right_none (is_eq (R z x)) (has R xs z) none

  step_back : (r : Ordering) (x y : X) (xs ys : List X) (rest : List X → List X) (later : List X) → R x y ≡ r
      → WalksBack x xs rest → ((z : X) → Either (x ∷ xs) ys z → IsIn later z)
      → (z : X) → Either (x ∷ xs) (y ∷ ys) z → IsIn (by_order r (x ∷ rest (y ∷ ys)) (x ∷ rest ys) (y ∷ later)) z
  step_back Less x y xs ys rest later is walks goes z (inl (inl first)) = inl first
  step_back Less x y xs ys rest later is walks goes z (inl (inr left)) = inr (walks (y ∷ ys) z (inl left))
  step_back Less x y xs ys rest later is walks goes z (inr right) = inr (walks (y ∷ ys) z (inr (right.0, one_less x y z xs right.1)))
  step_back Equal x y xs ys rest later is walks goes z (inl (inl first)) = inl first
  step_back Equal x y xs ys rest later is walks goes z (inl (inr left)) = inr (walks ys z (inl left))
  step_back Equal x y xs ys rest later is walks goes z (inr (inl first, none)) =
      absurd (clash (sym (ap (λ w. is_eq (R w x)) (sym first) ∙ left_none (is_eq (R z x)) (has R xs z) none) ∙ (tie-sym R o y x ∙ ap is_eq is)))
  step_back Equal x y xs ys rest later is walks goes z (inr (inr right, none)) = inr (walks ys z (inr (right, one_less x y z xs none)))
  step_back Greater x y xs ys rest later is walks goes z (inl left) = inr (goes z (inl left))
  step_back Greater x y xs ys rest later is walks goes z (inr (inl first, none)) = inl first
  step_back Greater x y xs ys rest later is walks goes z (inr (inr right, none)) = inr (goes z (inr (right, none)))

  from_back : (x : X) (xs ys : List X) (rest : List X → List X) → WalksBack x xs rest → (z : X) → Either (x ∷ xs) ys z → IsIn (both_from R x rest ys) z
  from_back x xs [] rest walks z (inl (inl first)) = inl first
  from_back x xs [] rest walks z (inl (inr left)) = inr (walks [] z (inl left))
  from_back x xs [] rest walks z (inr right) = absurd right.0
  from_back x xs (y ∷ ys) rest walks z is = step_back (R x y) x y xs ys rest (both_from R x rest ys) refl walks (from_back x xs ys rest walks) z is

  pub both_in : (xs ys : List X) (z : X) → Either xs ys z → IsIn (both R xs ys) z
  both_in [] ys z (inl left) = absurd left
  both_in [] ys z (inr right) = right.0
  both_in (x ∷ xs) ys z is = from_back x xs ys (both R xs) (both_in xs) z is

  -- in order

  abbrev WalksUp : X → List X → (List X → List X) → Type 0
  WalksUp x xs rest = (ys : List X) → Rises R ys → Rises R (rest ys)

  step_up : (r : Ordering) (x y : X) (xs ys : List X) (rest : List X → List X) (later : List X) → R x y ≡ r → IsBelow R x xs → Rises R (y ∷ ys)
      → WalksIn x xs rest → WalksUp x xs rest → Rises R later → ((z : X) → IsIn later z → Either (x ∷ xs) ys z)
      → Rises R (by_order r (x ∷ rest (y ∷ ys)) (x ∷ rest ys) (y ∷ later))
  step_up Less x y xs ys rest later is below up walks rise up_later goes = (
    below_each R o x (rest (y ∷ ys)) (λ z there. elim (walks (y ∷ ys) up z there) [
      | inl left ↦ below_one R o x xs z below left
      | inr right ↦ below_one R o x (y ∷ ys) z (is, below_all R o x y ys is up.0) right.0
    ]),
    rise (y ∷ ys) up,
  )
  step_up Equal x y xs ys rest later is below up walks rise up_later goes = (
    below_each R o x (rest ys) (λ z there. elim (walks ys up.1 z there) [
      | inl left ↦ below_one R o x xs z below left
      | inr right ↦ less_same R o x y z is (below_one R o y ys z up.0 right.0)
    ]),
    rise ys up.1,
  )
  step_up Greater x y xs ys rest later is below up walks rise up_later goes =
      let less = greater_back R o x y is
      in (
        below_each R o y later (λ z there. elim (goes z there) [
          | inl left ↦ below_one R o y (x ∷ xs) z (less, below_all R o y x xs less below) left
          | inr right ↦ below_one R o y ys z up.0 right.0
        ]),
        up_later,
      )

  from_up : (x : X) (xs ys : List X) (rest : List X → List X) → IsBelow R x xs → Rises R ys → WalksIn x xs rest → WalksUp x xs rest → Rises R (both_from R x rest ys)
  from_up x xs [] rest below up walks rise = (
    below_each R o x (rest []) (λ z there. elim (walks [] tt z there) [ inl left ↦ below_one R o x xs z below left | inr right ↦ absurd right.0 ]),
    rise [] tt,
  )
  from_up x xs (y ∷ ys) rest below up walks rise =
      step_up (R x y) x y xs ys rest (both_from R x rest ys) refl below up walks rise (from_up x xs ys rest below up.1 walks rise)
      (from_in x xs ys rest below up.1 walks)

  pub both_rises : (xs ys : List X) → Rises R xs → Rises R ys → Rises R (both R xs ys)
  both_rises [] ys up_x up_y = up_y
  both_rises (x ∷ xs) ys up_x up_y = from_up x xs ys (both R xs) up_x.0 up_y (λ l up. in_both xs l up_x.1 up) (λ l up. both_rises xs l up_x.1 up)

  -- ---- the first of each key

  pub first_is_in : (all : List X) (x : X) → IsFirstIn R all x → IsIn all x
  first_is_in [] x first = absurd first
  first_is_in (y ∷ all) x (inl same) = inl same
  first_is_in (y ∷ all) x (inr later) = inr (first_is_in all x later.1)

  record FirstOf (all : List X) (x : X) : Type 0 where
    one : X
    first : IsFirstIn R all one
    tied : is_eq (R x one) ≡ true

  first_of_key : (all : List X) (x : X) → has R all x ≡ true → FirstOf all x
  first_of_key [] x some = absurd (clash some)
  first_of_key (y ∷ all) x some = elim (cases_Bool (is_eq (R x y))) [
    | inl tie ↦ record { one = y; first = inl refl; tied = tie }
    | inr other ↦
        let f = first_of_key all x (ap (λ b. b || has R all x) (sym other) ∙ some)
        in record {
          one = f.one;
          first = inr (ap is_eq (sym (o.congr x f.one y (is_equal (R x f.one) f.tied))) ∙ other, f.first);
          tied = f.tied;
        }
  ]

  first_append : (a b : List X) (x : X) → IsFirstIn R (a ++ b) x → IsFirstIn R a x ⊎ ((has R a x ≡ false) × IsFirstIn R b x)
  first_append [] b x first = inr (refl, first)
  first_append (y ∷ a) b x (inl same) = inl (inl same)
  first_append (y ∷ a) b x (inr later) = elim (first_append a b x later.1) [
    | inl left ↦ inl (inr (later.0, left))
    | inr right ↦ inr (or_none (is_eq (R x y)) (has R a x) later.0 right.0, right.1)
  ]

  append_left : (a b : List X) (x : X) → IsFirstIn R a x → IsFirstIn R (a ++ b) x
  append_left [] b x first = absurd first
  append_left (y ∷ a) b x (inl same) = inl same
  append_left (y ∷ a) b x (inr later) = inr (later.0, append_left a b x later.1)

  append_right : (a b : List X) (x : X) → has R a x ≡ false → IsFirstIn R b x → IsFirstIn R (a ++ b) x
  append_right [] b x none first = first
  append_right (y ∷ a) b x none first =
      inr (left_none (is_eq (R x y)) (has R a x) none, append_right a b x (right_none (is_eq (R x y)) (has R a x) none) first)

  -- a merge has the keys that all have
  no_key_all : (all merge : List X) → IsMerge R all merge → (x : X) → has R merge x ≡ false → has R all x ≡ false
  no_key_all all merge m x none = elim (cases_Bool (has R all x)) [
    | inl some ↦
        let f = first_of_key all x some
        in absurd (clash (sym (none_has R o merge x f.one none (m.every f.one f.first)) ∙ f.tied))
    | inr absent ↦ absent
  ]

  no_key_merge : (all merge : List X) → IsMerge R all merge → (x : X) → has R all x ≡ false → has R merge x ≡ false
  no_key_merge all merge m x none = has_none R o merge x (λ y is. none_has R o all x y none (first_is_in all y (m.first y is)))

  pub merge_both : (a b xs ys : List X) → IsMerge R a xs → IsMerge R b ys → IsMerge R (a ++ b) (both R xs ys)
  merge_both a b xs ys m n =
      record {
        rises = both_rises xs ys m.rises n.rises;
        first = λ x is. elim (in_both xs ys m.rises n.rises x is) [
          | inl left ↦ append_left a b x (m.first x left)
          | inr right ↦ append_right a b x (no_key_all a xs m x right.1) (n.first x right.0)
        ];
        every = λ x first. both_in xs ys x (elim (first_append a b x first) [
          | inl left ↦ inl (m.every x left)
          | inr right ↦ inr (n.every x right.1, no_key_merge a xs m x right.0)
        ]);
      }

  pub merge_none : IsMerge R [] []
  merge_none = record { rises = tt; first = λ x is. absurd is; every = λ x first. absurd first }

  -- ---- each key of one list once

  -- none of these is below x
  abbrev pub AllFrom : X → List X → Type 0
  AllFrom x [] = Unit {0}
  AllFrom x (y ∷ ys) = (is_lt (R y x) ≡ false) × AllFrom x ys

  -- none is below one before it
  abbrev pub Ascends : List X → Type 0
  Ascends [] = Unit {0}
  Ascends (x ∷ xs) = AllFrom x xs × Ascends xs

  one_from : (x : X) (ys : List X) (y : X) → AllFrom x ys → IsIn ys y → is_lt (R y x) ≡ false
  one_from x [] y from is = absurd is
  one_from x (z ∷ ys) y from (inl same) = ap (λ w. is_lt (R w x)) same ∙ from.0
  one_from x (z ∷ ys) y from (inr later) = one_from x ys y from.1 later

  -- where y isn't tied with x, not below it, and z isn't below y and not tied with it
  apart : (x y z : X) → R x y ≡ Less → is_lt (R z y) ≡ false → is_eq (R z y) ≡ false → is_eq (R z x) ≡ false
  apart x y z less from other = not_tied_back R o x z (o.trans x y z less (above_is R o y z from other))

  if_in : (t : Bool) (x y : X) (ys : List X) → is_eq (R x y) ≡ t → is_lt (R y x) ≡ false → Ascends (y ∷ ys)
      → ((w z : X) → AllFrom w ys → IsIn (behind R w ys) z → IsFirstIn R ys z × (is_eq (R z w) ≡ false))
      → AllFrom x ys
      → (z : X) → IsIn (if t then behind R x ys else y ∷ behind R y ys) z → IsFirstIn R (y ∷ ys) z × (is_eq (R z x) ≡ false)
  if_in true x y ys tie from up goes from_x z is =
      let b = goes x z from_x is
      in (inr (ap is_eq (sym (alike_right o x y z (is_equal (R x y) tie))) ∙ b.1, b.0), b.1)
  if_in false x y ys tie from up goes from_x z (inl first) =
      (inl first, ap (λ w. is_eq (R w x)) first ∙ tie-sym R o y x ∙ tie)
  if_in false x y ys tie from up goes from_x z (inr there) =
      let b = goes y z up.0 there
      in let less : R x y ≡ Less = above_is R o x y from (tie-sym R o y x ∙ tie)
      in (inr (b.1, b.0), apart x y z less (one_from y ys z up.0 (first_is_in ys z b.0)) b.1)

  behind_in : (x : X) (ys : List X) → Ascends ys → (z : X) → AllFrom x ys → IsIn (behind R x ys) z → IsFirstIn R ys z × (is_eq (R z x) ≡ false)
  behind_in x [] up z from is = absurd is
  behind_in x (y ∷ ys) up z from is =
      if_in (is_eq (R x y)) x y ys refl from.0 up (λ w v from_w there. behind_in w ys up.1 v from_w there) from.1 z is

  if_back : (t : Bool) (x y : X) (ys : List X) → is_eq (R x y) ≡ t
      → ((w z : X) → IsFirstIn R ys z → is_eq (R z w) ≡ false → IsIn (behind R w ys) z)
      → (z : X) → IsFirstIn R (y ∷ ys) z → is_eq (R z x) ≡ false → IsIn (if t then behind R x ys else y ∷ behind R y ys) z
  if_back true x y ys tie goes z (inl same) other = absurd (clash (sym (ap (λ w. is_eq (R w x)) (sym same) ∙ other) ∙ tie-sym R o y x ∙ tie))
  if_back true x y ys tie goes z (inr later) other = goes x z later.1 other
  if_back false x y ys tie goes z (inl same) other = inl same
  if_back false x y ys tie goes z (inr later) other = inr (goes y z later.1 later.0)

  in_behind : (x : X) (ys : List X) (z : X) → IsFirstIn R ys z → is_eq (R z x) ≡ false → IsIn (behind R x ys) z
  in_behind x [] z first other = absurd first
  in_behind x (y ∷ ys) z first other = if_back (is_eq (R x y)) x y ys refl (λ w v there different. in_behind w ys v there different) z first other

  behind_below : (x : X) (ys : List X) → Ascends ys → AllFrom x ys → IsBelow R x (behind R x ys)
  behind_below x ys up from = below_each R o x (behind R x ys) (λ z is.
      let b = behind_in x ys up z from is
      in above_is R o x z (one_from x ys z from (first_is_in ys z b.0)) b.1)

  if_up : (t : Bool) (x y : X) (ys : List X) → Ascends (y ∷ ys) → ((w : X) → AllFrom w ys → Rises R (behind R w ys)) → AllFrom x ys
      → Rises R (if t then behind R x ys else y ∷ behind R y ys)
  if_up true x y ys up goes from = goes x from
  if_up false x y ys up goes from = (behind_below y ys up.1 up.0, goes y up.0)

  behind_rises : (x : X) (ys : List X) → Ascends ys → AllFrom x ys → Rises R (behind R x ys)
  behind_rises x [] up from = tt
  behind_rises x (y ∷ ys) up from = if_up (is_eq (R x y)) x y ys up (λ w from_w. behind_rises w ys up.1 from_w) from.1

  pub merge_once : (xs : List X) → Ascends xs → IsMerge R xs (once R xs)
  merge_once [] up = merge_none
  merge_once (x ∷ xs) up =
      record {
        rises = (behind_below x xs up.1 up.0, behind_rises x xs up.1 up.0);
        first = λ z is. once_first x xs up z is;
        every = λ z first. once_every x xs z first;
      }
    where
      once_first : (x : X) (xs : List X) → Ascends (x ∷ xs) → (z : X) → IsIn (x ∷ behind R x xs) z → IsFirstIn R (x ∷ xs) z
      once_first x xs up z (inl same) = inl same
      once_first x xs up z (inr there) = let b = behind_in x xs up.1 z up.0 there in inr (b.1, b.0)

      once_every : (x : X) (xs : List X) (z : X) → IsFirstIn R (x ∷ xs) z → IsIn (x ∷ behind R x xs) z
      once_every x xs z (inl same) = inl same
      once_every x xs z (inr later) = inr (in_behind x xs z later.1 later.0)
