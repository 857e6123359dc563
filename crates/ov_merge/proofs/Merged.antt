-- The merge of positions is that of their rows.
use Rattle.std.proofs.Common.{◌≡◌, ◌<◌, ℕ, suc, ◌+◌, false, List, [], ◌∷◌, ◌++◌, length, get_or, map, refl, sym, ◌∙◌, ap, subst, inl, inr, arith}
use Rattle.std.specs.List.{flat_map}
use Rattle.std.specs.Cmp.{IsTotalOrder}
use Rattle.std.specs.Ordering.{is_eq, is_lt}
use Rattle.std.specs.declared.cmp.Ordering.{Ordering}
use Rattle.std.proofs.lemmas.Cmp.{on_total}
use Rattle.std.proofs.lemmas.List.{map-append, length-map}
use Rattle.std.proofs.lemmas.List.MinMax.{ranks_by}
use Rattle.std.proofs.lemmas.List.Sorted.{sorted_far}
use Rattle.ov_value.specs.Order.{key_cmp_total}
use Rattle.ov_value.specs.Rows.{key_cmp}
use Rattle.ov_value.specs.Shapes.{Shape}
use Rattle.ov_segment.specs.declared.numbered.Record.{Record}
use Rattle.ov_model.specs.Book.{Row}
use Rattle.ov_model.specs.Lists.{IsIn, IsBelow, Rises, joined}
use Rattle.ov_model.specs.Merge.{has_key, merged, IsFirst}
use Rattle.ov_model.proofs.Merging.{merged_rises, merged_is_first, first_is_merged}
use Rattle.ov_fetch.specs.Scans.{InKeyOrder, row_at, rows_at}
use Rattle.ov_merge.specs.Places.{place_cmp, IsFirstPlace, IsFirstIn, IsMerge}
use Rattle.ov_merge.proofs.Orders.{or_none, left_none, right_none, rising_same}
use Rattle.ov_merge.proofs.Walking.{AllFrom, Ascends}

module _ (schema : Shape) (records : List Record) where
  abbrev R : ℕ → ℕ → Ordering
  R = place_cmp schema records

  abbrev row : ℕ → Row
  row = row_at records

  pub places_total : IsTotalOrder (place_cmp schema records)
  places_total = on_total (row_at records) (key_cmp_total schema)

  -- ---- rows in key order

  all_from : (x : ℕ) (ps : List ℕ) → ((k : ℕ) (d : Row) → k < length ps → is_lt (key_cmp schema (get_or (rows_at records ps) k d) (row x)) ≡ false) → AllFrom R places_total x ps
  all_from x [] h = tt
  all_from x (p ∷ ps) h = (h 0 (row p) (omega arith), all_from x ps (λ k d lt. h (suc k) d (omega (arith, lt))))

  order_tail : (p : ℕ) (ps : List ℕ) → InKeyOrder schema (rows_at records (p ∷ ps)) → InKeyOrder schema (rows_at records ps)
  order_tail p ps sorted k d low lt =
      let next : suc k + 1 ≡ suc (k + 1) = omega arith
      in subst (λ n. is_lt (key_cmp schema (get_or (rows_at records (p ∷ ps)) n d) (get_or (rows_at records ps) k d)) ≡ false) next
      (sorted (suc k) d (omega arith) (omega (arith, lt)))

  pub in_order : (ps : List ℕ) → InKeyOrder schema (rows_at records ps) → Ascends R places_total ps
  in_order [] sorted = tt
  in_order (p ∷ ps) sorted = (
    all_from p ps
        (λ k d lt. sorted_far (λ a b. is_lt (key_cmp schema a b)) (ranks_by (key_cmp_total schema) (λ r. r)) (rows_at records (p ∷ ps)) sorted 0 (suc k) d (omega arith)
        (omega (arith, lt, length-map ps (row_at records)))),
    in_order ps (order_tail p ps sorted),
  )

  -- ---- first places and first rows

  pub first_place : (places : List ℕ) (p : ℕ) → IsFirstIn R places p → IsFirstPlace schema records places p
  first_place [] p first = absurd first
  first_place (q ∷ places) p (inl same) =
      record { before = []; after = places; there = ap (λ x. x ∷ places) (sym same); first = refl }
  first_place (q ∷ places) p (inr later) =
      let f = first_place places p later.1
      in record {
        before = q ∷ f.before;
        after = f.after;
        there = ap (λ l. q ∷ l) f.there;
        first = or_none (is_eq (R p q)) (has_key schema (rows_at records f.before) (row p)) later.0 f.first;
      }

  first_row : (places : List ℕ) (p : ℕ) → IsFirstPlace schema records places p → IsFirst schema (rows_at records places) (row p)
  first_row places p f =
      record {
        before = rows_at records f.before;
        after = rows_at records f.after;
        there = ap (rows_at records) f.there ∙ map-append (row_at records) f.before (p ∷ f.after);
        first = f.first;
      }

  record PlaceOf (places : List ℕ) (r : Row) : Type 0 where
    place : ℕ
    first : IsFirstIn R places place
    row_is : r ≡ row place

  place_of : (places : List ℕ) (before after : List Row) (r : Row) → rows_at records places ≡ before ++ r ∷ after → has_key schema before r ≡ false → PlaceOf places r
  place_of [] [] after r there first = absurd (wrong there)
    where
      wrong : [] ≡ r ∷ after → ⊥
      wrong e = cc
  place_of [] (b ∷ before) after r there first = absurd (wrong there)
    where
      wrong : [] ≡ b ∷ (before ++ r ∷ after) → ⊥
      wrong e = cc
  place_of (p ∷ places) [] after r there first =
      let head : row p ≡ r = cc
      in record { place = p; first = inl refl; row_is = sym head }
  place_of (p ∷ places) (b ∷ before) after r there first =
      let head : row p ≡ b = cc
      in let tail : rows_at records places ≡ before ++ r ∷ after = cc
      in let f = place_of places before after r tail (right_none (is_eq (key_cmp schema r b)) (has_key schema before r) first)
      in record {
        place = f.place;
        first = inr (ap (λ x. is_eq (key_cmp schema x (row p))) (sym f.row_is) ∙ ap (λ x. is_eq (key_cmp schema r x)) head ∙ left_none (is_eq (key_cmp schema r b)) (has_key schema before r) first, f.first);
        row_is = f.row_is;
      }

  -- ---- the rows of a merge

  rows_rise : (ps : List ℕ) → Rises R ps → Rises (key_cmp schema) (rows_at records ps)
  rows_rise [] up = tt
  rows_rise (p ∷ ps) up = (below_rows p ps up.0, rows_rise ps up.1)
    where
      below_rows : (p : ℕ) (ps : List ℕ) → IsBelow R p ps → IsBelow (key_cmp schema) (row p) (rows_at records ps)
      below_rows p [] below = tt
      below_rows p (q ∷ ps) below = (below.0, below_rows p ps below.1)

  row_in : (ps : List ℕ) (p : ℕ) → IsIn ps p → IsIn (rows_at records ps) (row p)
  row_in [] p is = absurd is
  row_in (q ∷ ps) p (inl same) = inl (ap row same)
  row_in (q ∷ ps) p (inr later) = inr (row_in ps p later)

  record PlaceIn (ps : List ℕ) (r : Row) : Type 0 where
    place : ℕ
    is : IsIn ps place
    row_is : r ≡ row place

  place_in : (ps : List ℕ) (r : Row) → IsIn (rows_at records ps) r → PlaceIn ps r
  place_in [] r is = absurd is
  place_in (p ∷ ps) r (inl same) = record { place = p; is = inl refl; row_is = same }
  place_in (p ∷ ps) r (inr later) = let f = place_in ps r later in record { place = f.place; is = inr f.is; row_is = f.row_is }

  joined_rows : (picks : List (List ℕ)) → rows_at records (joined picks) ≡ flat_map (λ rows. rows) (map (rows_at records) picks)
  joined_rows [] = refl
  joined_rows (pick ∷ picks) = map-append (row_at records) pick (joined picks) ∙ ap (λ l. rows_at records pick ++ l) (joined_rows picks)

  pub merge_rows : (picks : List (List ℕ)) (merge : List ℕ) → IsMerge R (joined picks) merge → rows_at records merge ≡ merged schema (map (rows_at records) picks)
  merge_rows picks merge m =
      let lists : List (List Row) = map (rows_at records) picks
      in let all : rows_at records (joined picks) ≡ flat_map (λ rows. rows) lists = joined_rows picks
      in rising_same (key_cmp schema) (key_cmp_total schema) (rows_at records merge) (merged schema lists)
      (rows_rise merge m.rises) (merged_rises schema lists)
      (λ r is.
      let f = place_in merge r is
      in first_is_merged schema lists r
      (subst (IsFirst schema (flat_map (λ rows. rows) lists)) (sym f.row_is)
      (subst (λ l. IsFirst schema l (row f.place)) all (first_row (joined picks) f.place (first_place (joined picks) f.place (m.first f.place f.is))))))
      (λ r is.
      let g = merged_is_first schema lists r is
      in let f = place_of (joined picks) g.before g.after r (all ∙ g.there) g.first
      in subst (IsIn (rows_at records merge)) (sym f.row_is) (row_in merge f.place (m.every f.place f.first)))
