-- Picks in two halves, and positions that a walk keeps.
use Rattle.std.proofs.Common.{◌≡◌, ℕ, zero, suc, List, [], ◌∷◌, ◌++◌, length, get_or, take, drop, refl, sym, ◌∙◌, ap, subst, append_assoc, arith}
use Rattle.std.specs.Prelude.{Bool, true, false, if◌then◌else◌}
use Rattle.std.specs.List.{All}
use Rattle.std.specs.Ordering.{is_eq}
use Rattle.std.specs.declared.cmp.Ordering.{Ordering}
use Rattle.std.specs.declared.cmp.Ordering.TheVariants.{Less, Equal, Greater}
use Rattle.std.proofs.lemmas.List.{take-append-drop, append-nil}
use Rattle.ov_model.specs.Lists.{joined}
use Rattle.ov_merge.specs.Walks.{by_order, both_from, both, behind, once}

module _ {X : Type 0} (P : X → Type 0) where
  -- each of them, as a list of facts
  abbrev pub Each : List X → Type 0
  Each [] = Unit {0}
  Each (x ∷ xs) = P x × Each xs

  pub each_of : (xs : List X) → All P xs → Each xs
  each_of [] all = tt
  each_of (x ∷ xs) all = (all 0 x (omega arith), each_of xs (λ k d lt. all (suc k) d (omega (arith, lt))))

  pub all_of : (xs : List X) → Each xs → All P xs
  all_of [] each k d lt = absurd (omega (arith, lt))
  all_of (x ∷ xs) each zero d lt = each.0
  all_of (x ∷ xs) each (suc k) d lt = all_of xs each.1 k d (omega (arith, lt))

  each_append : (xs ys : List X) → Each (xs ++ ys) → Each xs × Each ys
  each_append [] ys each = (tt, each)
  each_append (x ∷ xs) ys each = let more = each_append xs ys each.1 in ((each.0, more.0), more.1)

  pub all_take : (xs : List X) (n : ℕ) → All P xs → All P (take n xs)
  all_take xs n all = all_of (take n xs) (each_append (take n xs) (drop n xs) (subst Each (sym (take-append-drop n xs)) (each_of xs all))).0

  pub all_drop : (xs : List X) (n : ℕ) → All P xs → All P (drop n xs)
  all_drop xs n all = all_of (drop n xs) (each_append (take n xs) (drop n xs) (subst Each (sym (take-append-drop n xs)) (each_of xs all))).1

module _ {X : Type 0} (P : X → Type 0) (R : X → X → Ordering) where
  if_each : (t : Bool) (x y : X) (ys : List X) → P y → ((w : X) → Each P (behind R w ys)) → Each P (if t then behind R x ys else y ∷ behind R y ys)
  if_each true x y ys one goes = goes x
  if_each false x y ys one goes = (one, goes y)

  each_behind : (x : X) (ys : List X) → Each P ys → Each P (behind R x ys)
  each_behind x [] each = tt
  each_behind x (y ∷ ys) each = if_each (is_eq (R x y)) x y ys each.0 (λ w. each_behind w ys each.1)

  pub all_once : (xs : List X) → All P xs → All P (once R xs)
  all_once [] all = all
  all_once (x ∷ xs) all = let each = each_of P (x ∷ xs) all in all_of P (x ∷ behind R x xs) (each.0, each_behind x xs each.1)

  step_each : (r : Ordering) (x y : X) (ys : List X) (rest : List X → List X) (later : List X) → P x → Each P (y ∷ ys)
      → ((l : List X) → Each P l → Each P (rest l)) → Each P later → Each P (by_order r (x ∷ rest (y ∷ ys)) (x ∷ rest ys) (y ∷ later))
  step_each Less x y ys rest later one each goes more = (one, goes (y ∷ ys) each)
  step_each Equal x y ys rest later one each goes more = (one, goes ys each.1)
  step_each Greater x y ys rest later one each goes more = (each.0, more)

  each_from : (x : X) (ys : List X) (rest : List X → List X) → P x → Each P ys → ((l : List X) → Each P l → Each P (rest l)) → Each P (both_from R x rest ys)
  each_from x [] rest one each goes = (one, goes [] tt)
  each_from x (y ∷ ys) rest one each goes = step_each (R x y) x y ys rest (both_from R x rest ys) one each goes (each_from x ys rest one each.1 goes)

  each_both : (xs ys : List X) → Each P xs → Each P ys → Each P (both R xs ys)
  each_both [] ys a b = b
  each_both (x ∷ xs) ys a b = each_from x ys (both R xs) a.0 b (λ l each. each_both xs l a.1 each)

  pub all_both : (xs ys : List X) → All P xs → All P ys → All P (both R xs ys)
  all_both xs ys a b = all_of P (both R xs ys) (each_both xs ys (each_of P xs a) (each_of P ys b))

joined_append : (a b : List (List ℕ)) → joined (a ++ b) ≡ joined a ++ joined b
joined_append [] b = refl
joined_append (xs ∷ a) b = ap (λ l. xs ++ l) (joined_append a b) ∙ sym (append_assoc xs (joined a) (joined b))

pub joined_halves : (picks : List (List ℕ)) (n : ℕ) → joined (take n picks) ++ joined (drop n picks) ≡ joined picks
joined_halves picks n = sym (joined_append (take n picks) (drop n picks)) ∙ ap joined (take-append-drop n picks)

pub one_pick : (picks : List (List ℕ)) (pick : List ℕ) → length picks ≡ 1 → pick ≡ get_or picks 0 pick → joined picks ≡ pick
one_pick [] pick long is = absurd (omega (arith, long))
one_pick (xs ∷ []) pick long is = append-nil xs ∙ sym is
one_pick (xs ∷ ys ∷ more) pick long is = absurd (omega (arith, long))
