-- A piece is in the order of all records exactly where its rids ascend.
use Rattle.std.proofs.Common.{◌<◌, ℕ, zero, suc, ◌+◌, Bool, true, false, List, [], ◌∷◌, length, map, filter, sym, subst, arith}
use Rattle.std.specs.Prelude.{◌↔◌, if◌then◌else◌}
use Rattle.std.specs.Ordering.{nat_cmp}
use Rattle.ov_value.specs.Shapes.{Shape}
use Rattle.ov_model.specs.Book.{Version}
use Rattle.ov_model.specs.Lists.{AreIn, IsBelow, Rises}
use Rattle.ov_model.specs.Ordered.{IsInOrder}
use Rattle.ov_model.specs.Records.{Rec, AllRise, is_among, in_order, order_of, rid_in, counted}
use Rattle.ov_model.proofs.Holds.{among_in, in_among}
use Rattle.ov_model.proofs.Ordering.{of_filter}
use Rattle.ov_model.proofs.Origins.{in_filter}
use Rattle.ov_model.proofs.Rids.{no_gap}
use Rattle.ov_catalog.proofs.Members.{same_rising}
use Rattle.ov_catalog.proofs.Ranking.{are_in_at, some_in}
use Rattle.ov_catalog.proofs.Rising.{by, by_total, less_is}

counted_below : (n m count : ℕ) → n < m → IsBelow nat_cmp n (counted m count)
counted_below n m zero low = tt
counted_below n m (suc count) low = (less_is n m low, counted_below n (m + 1) count (omega (arith, low)))

counted_rises : (n count : ℕ) → Rises nat_cmp (counted n count)
counted_rises n zero = tt
counted_rises n (suc count) = (counted_below n (n + 1) count (omega arith), counted_rises (n + 1) count)

module _ (key : Rec → ℕ) where
  below_by : (x : Rec) (rs : List Rec) → IsBelow nat_cmp (key x) (map key rs) → IsBelow (by key) x rs
  below_by x [] below = tt
  below_by x (r ∷ rs) below = (below.0, below_by x rs below.1)

  rises_by : (rs : List Rec) → Rises nat_cmp (map key rs) → Rises (by key) rs
  rises_by [] rise = tt
  rises_by (r ∷ rs) rise = (below_by r rs rise.0, rises_by rs rise.1)

  below_filter : (p : Rec → Bool) (x : Rec) (rs : List Rec) → IsBelow (by key) x rs → IsBelow (by key) x (filter p rs)
  below_filter p x [] below = tt
  below_filter p x (r ∷ rs) below = at (p r) (below_filter p x rs below.1)
    where
      at : (b : Bool) → IsBelow (by key) x (filter p rs) → IsBelow (by key) x (if b then r ∷ filter p rs else filter p rs)
      at true rest = (below.0, rest)
      at false rest = rest

  rises_filter : (p : Rec → Bool) (rs : List Rec) → Rises (by key) rs → Rises (by key) (filter p rs)
  rises_filter p [] rise = tt
  rises_filter p (r ∷ rs) rise = at (p r) (rises_filter p rs rise.1)
    where
      at : (b : Bool) → Rises (by key) (filter p rs) → Rises (by key) (if b then r ∷ filter p rs else filter p rs)
      at true rest = (below_filter p r rs rise.0, rest)
      at false rest = rest

module _ (schema : Shape) (vs : List Version) (rise : AllRise schema vs) where
  abbrev all : List Rec
  all = order_of vs

  abbrev rid : Rec → ℕ
  rid r = rid_in all r

  all_ascend : Rises (by rid) all
  all_ascend = rises_by rid all (subst (Rises nat_cmp) (sym (no_gap schema vs rise)) (counted_rises 1 (length all)))

  chosen_ascend : (piece : List Rec) → Rises (by rid) (in_order all piece)
  chosen_ascend piece = rises_filter rid (is_among piece) all all_ascend

  forth : (piece : List Rec) → IsInOrder all piece → AreIn piece all × Rises (by rid) piece
  forth piece is = (
    subst (λ rs. AreIn rs all) (sym is) (some_in (is_among piece) all),
    subst (Rises (by rid)) (sym is) (chosen_ascend piece),
  )

  back : (piece : List Rec) → AreIn piece all × Rises (by rid) piece → IsInOrder all piece
  back piece is =
      same_rising (by rid) (by_total rid) piece (in_order all piece) is.1 (chosen_ascend piece)
      (λ r there. in_filter (is_among piece) all r (in_among piece r there) (are_in_at piece all r is.0 there))
      (λ r there. among_in piece r (of_filter (is_among piece) all r there).1)

pub order_is_by_rid : (schema : Shape) (vs : List Version) (piece : List Rec) → AllRise schema vs
    → IsInOrder (order_of vs) piece ↔ (AreIn piece (order_of vs) × Rises (λ a b. nat_cmp (rid_in (order_of vs) a) (rid_in (order_of vs) b)) piece)
order_is_by_rid schema vs piece rise = (forth schema vs rise piece, back schema vs rise piece)
