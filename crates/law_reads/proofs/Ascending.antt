-- Records in key order, of which none has the rid of another, stand where a list that rises has them.
use Rattle.std.proofs.Common.{◌≡◌, ◌≤◌, ◌<◌, ◌+◌, ◌==◌, ℕ, zero, suc, Bool, true, false, cond, List, [], ◌∷◌, length, get_or, refl, sym, ◌∙◌, ap, subst, inl, inr, arith}
use Rattle.std.specs.List.{sum_by}
use Rattle.std.specs.List.Sorted.{IsSorted}
use Rattle.std.specs.Cmp.{IsTotalOrder, on_total}
use Rattle.std.specs.Ordering.{ordering_reverse, is_lt}
use Rattle.std.specs.declared.cmp.Ordering.{Ordering}
use Rattle.std.specs.declared.cmp.Ordering.TheVariants.{Less, Equal, Greater}
use Rattle.std.proofs.lemmas.Bool.{cases_eq, eq-eqb, ne_eqb}
use Rattle.std.proofs.lemmas.List.Sorted.{sorted_far, ranks_by}
use Rattle.std.proofs.lemmas.List.Sums.{sum_by-cons}
use Rattle.ov_value.specs.Order.{key_cmp_total}
use Rattle.ov_value.specs.Rows.{key_cmp}
use Rattle.ov_value.specs.Shapes.{Shape}
use Rattle.ov_segment.specs.declared.numbered.Record.{Record}
use Rattle.ov_member.specs.Rids.{RiseFrom}
use Rattle.ov_fetch.specs.Extents.{rids_of}
use Rattle.ov_fetch.specs.Scans.{InKeyOrder, rows_of}
use Rattle.ov_model.specs.Book.{Row}
use Rattle.ov_model.specs.Lists.{IsIn, IsBelow, Rises}

-- ---- how often a number stands in a list

abbrev pub count_of : ℕ → List ℕ → ℕ
count_of n xs = sum_by (λ x. cond (x == n) 1 0) xs

count_cons : (n x : ℕ) (xs : List ℕ) → count_of n (x ∷ xs) ≡ cond (x == n) 1 0 + count_of n xs
count_cons n x xs = sum_by-cons (λ (y : ℕ). cond (y == n) 1 0) x xs

abbrev bit : Bool → ℕ
bit b = cond b 1 0

count_in : (n : ℕ) (xs : List ℕ) → IsIn xs n → 1 ≤ count_of n xs
count_in n [] is = absurd is
count_in n (x ∷ xs) (inl same) = omega (arith, count_cons n x xs, ap bit (eq-eqb x n (sym same)))
count_in n (x ∷ xs) (inr later) = omega (arith, count_cons n x xs, count_in n xs later)

count_none : (least n : ℕ) (xs : List ℕ) → RiseFrom least xs → n < least → count_of n xs ≡ 0
count_none least n [] rise low = refl
count_none least n (x ∷ xs) rise low =
    omega (arith, count_cons n x xs, ap bit (ne_eqb x n (λ same. omega (arith, rise.0, low, same))), count_none (suc x) n xs rise.2 (omega (arith, rise.0, low)))

pub count_once : (least n : ℕ) (xs : List ℕ) → RiseFrom least xs → count_of n xs ≤ 1
count_once least n [] rise = omega arith
count_once least n (x ∷ xs) rise =
    elim (cases_eq x n) [
      | inl same ↦ omega (arith, count_cons n x xs, ap bit (eq-eqb x n same), count_none (suc x) n xs rise.2 (omega (arith, same)))
      | inr other ↦ omega (arith, count_cons n x xs, ap bit (ne_eqb x n other), count_once (suc x) n xs rise.2)
    ]

-- ---- the order of two records

abbrev pub record_cmp : Shape → Record → Record → Ordering
record_cmp schema a b = key_cmp schema a.row b.row

pub record_total : (schema : Shape) → IsTotalOrder (record_cmp schema)
record_total schema = on_total (λ r. r.row) (key_cmp_total schema)

module _ (schema : Shape) where
  below_at : (x : Record) (ys : List Record) (y : Record) → IsBelow (record_cmp schema) x ys → IsIn ys y → record_cmp schema x y ≡ Less
  below_at x [] y below is = absurd is
  below_at x (z ∷ ys) y below (inl same) = subst (λ k. record_cmp schema x k ≡ Less) (sym same) below.0
  below_at x (z ∷ ys) y below (inr later) = below_at x ys y below.1 later

  not_less : (x y : Record) → record_cmp schema x y ≡ Less → record_cmp schema x y ≡ Equal → ⊥
  not_less x y less tie = clash (sym less ∙ tie)
    where
      clash : Less ≡ Equal → ⊥
      clash e = cc

  tie_turned : (x y : Record) → record_cmp schema x y ≡ Equal → record_cmp schema y x ≡ Equal
  tie_turned x y tie = (record_total schema).antisymm y x ∙ ap ordering_reverse tie

  -- what ties in a list that rises is one
  tie_same : (xs : List Record) (x y : Record) → Rises (record_cmp schema) xs → IsIn xs x → IsIn xs y → record_cmp schema x y ≡ Equal → x ≡ y
  tie_same [] x y rise is also tie = absurd is
  tie_same (z ∷ xs) x y rise (inl here) (inl there) tie = here ∙ sym there
  tie_same (z ∷ xs) x y rise (inl here) (inr later) tie =
      absurd (not_less x y (subst (λ k. record_cmp schema k y ≡ Less) (sym here) (below_at z xs y rise.0 later)) tie)
  tie_same (z ∷ xs) x y rise (inr later) (inl there) tie =
      absurd (not_less y x (subst (λ k. record_cmp schema k x ≡ Less) (sym there) (below_at z xs x rise.0 later)) (tie_turned x y tie))
  tie_same (z ∷ xs) x y rise (inr later) (inr also) tie = tie_same xs x y rise.1 later also tie

-- ---- records in key order

-- no row is less than one before it
abbrev IsFar : Shape → List Row → Type 0
IsFar schema rows = (i j : ℕ) (d : Row) → i ≤ j → j < length rows → is_lt (key_cmp schema (get_or rows j d) (get_or rows i d)) ≡ false

far : (schema : Shape) (rows : List Row) → IsSorted (key_cmp schema) rows → IsFar schema rows
far schema rows sorted = sorted_far (λ a b. is_lt (key_cmp schema a b)) (ranks_by (key_cmp_total schema) (λ row. row)) rows sorted

far_tail : (schema : Shape) (row : Row) (rows : List Row) → IsFar schema (row ∷ rows) → IsFar schema rows
far_tail schema row rows all i j d le low = all (suc i) (suc j) d (omega (arith, le)) (omega (arith, low))

row_place : (rs : List Record) (r : Record) → IsIn rs r → (k : ℕ) × ((k < length (rows_of rs)) × ((d : Row) → get_or (rows_of rs) k d ≡ r.row))
row_place [] r is = absurd is
row_place (x ∷ rs) r (inl same) = (zero, (omega arith, λ d. ap (λ y. y.row) (sym same)))
row_place (x ∷ rs) r (inr later) =
    let it = row_place rs r later
    in (suc it.0, (omega (arith, it.1.0), it.1.1))

far_first : (schema : Shape) (x : Record) (xs : List Record) (y : Record) → IsFar schema (rows_of (x ∷ xs)) → IsIn xs y → is_lt (record_cmp schema y x) ≡ false
far_first schema x xs y all is =
    let it = row_place xs y is
    in ap (λ row. is_lt (key_cmp schema row x.row)) (sym (it.1.1 [])) ∙ all zero (suc it.0) [] (omega arith) (omega (arith, it.1.0))

below_all : (schema : Shape) (x : Record) (ys : List Record) → ((y : Record) → IsIn ys y → record_cmp schema x y ≡ Less) → IsBelow (record_cmp schema) x ys
below_all schema x [] each = tt
below_all schema x (y ∷ ys) each = (each y (inl refl), below_all schema x ys (λ z is. each z (inr is)))

in_rids : (rs : List Record) (r : Record) → IsIn rs r → IsIn (rids_of rs) r.rid
in_rids [] r is = is
in_rids (x ∷ rs) r (inl same) = inl (ap (λ y. y.rid) same)
in_rids (x ∷ rs) r (inr later) = inr (in_rids rs r later)

less_by : (schema : Shape) (x y : Record) (o : Ordering) → record_cmp schema x y ≡ o → is_lt (record_cmp schema y x) ≡ false → (record_cmp schema x y ≡ Equal → ⊥) → record_cmp schema x y ≡ Less
less_by schema x y Less e not_more no_tie = e
less_by schema x y Equal e not_more no_tie = absurd (no_tie e)
less_by schema x y Greater e not_more no_tie =
    absurd (clash (ap is_lt (sym ((record_total schema).antisymm y x ∙ ap ordering_reverse e)) ∙ not_more))
  where
    clash : true ≡ false → ⊥
    clash t = cc

rise_far : (schema : Shape) (ts xs : List Record) → Rises (record_cmp schema) ts → ((x : Record) → IsIn xs x → IsIn ts x) → IsFar schema (rows_of xs)
    → ((n : ℕ) → count_of n (rids_of xs) ≤ 1) → Rises (record_cmp schema) xs
rise_far schema ts [] rise are all once = tt
rise_far schema ts (x ∷ xs) rise are all once = (
  below_all schema x xs (λ y is. less_by schema x y (record_cmp schema x y) refl (far_first schema x xs y all is) (λ tie.
      let same : x ≡ y = tie_same schema ts x y rise (are x (inl refl)) (are y (inr is)) tie
      in omega (
        arith,
        once x.rid,
        count_cons x.rid x.rid (rids_of xs),
        ap bit (eq-eqb x.rid x.rid refl),
        count_in x.rid (rids_of xs) (subst (λ z. IsIn (rids_of xs) z.rid) (sym same) (in_rids xs y is)),
      ))),
  rise_far schema ts xs rise (λ y is. are y (inr is)) (far_tail schema x.row (rows_of xs) all) (λ n. omega (arith, once n, count_cons n x.rid (rids_of xs))),
)

pub rise_picked : (schema : Shape) (ts xs : List Record) → Rises (record_cmp schema) ts → ((x : Record) → IsIn xs x → IsIn ts x) → InKeyOrder schema (rows_of xs)
    → ((n : ℕ) → count_of n (rids_of xs) ≤ 1) → Rises (record_cmp schema) xs
rise_picked schema ts xs rise are ordered once = rise_far schema ts xs rise are (far schema (rows_of xs) ordered) once
