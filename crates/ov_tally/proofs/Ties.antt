-- Pairs in order are rows in the stable order of their ranks.
use Rattle.std.proofs.Common.{◌≡◌, ◌<◌, ◌+◌, ◌*◌, ◌∷◌, ◌++◌, ◌∙◌, [], ℕ, suc, List, Bool, true, false, cond, if◌then◌else◌, refl, sym, ap, ap₂, arith, length, map, filter, get_or, true≢false, is_gt, is_lt, Ordering, Less, Equal, Greater}
use Rattle.std.specs.Prelude.{nat_lt, ⊤}
use Rattle.std.specs.Cmp.{IsTotalOrder, nat_cmp_is}
use Rattle.std.specs.List.{All, AllByRecursion, AllZip, count_by, sum_by}
use Rattle.std.specs.List.Sorted.{IsPermutation, ties}
use Rattle.std.specs.Ordering.{nat_cmp, ordering_reverse, ordering_then}
use Rattle.std.proofs.lemmas.Cmp.{nat_cmp_total, on_total, then_total}
use Rattle.std.proofs.lemmas.List.Elements.{All-from_recursion, recursion_from_All}
use Rattle.std.proofs.lemmas.List.Sorted.{All-permutation, IsPermutation-append, IsPermutation-map, IsPermutation-refl, IsPermutation-sym, sum_by-IsPermutation}
use Rattle.std.proofs.lemmas.List.Sums.{length-filter, sum_by-append, sum_by-cons}
use Rattle.ov_tally.specs.Ranks.{InKeyOrder, KeysRise, is_above, is_low, pair_at, pair_order, pairs_from, pairs_in, pairs_of, placed_by, rank_order, row_order, rows_from, rows_of, sorted_by}
use Rattle.ov_tally.specs.Spans.{AreBelow, Spans, places_in, places_of, run, times}
use Rattle.ov_tally.specs.declared.first.Pair.{Pair}
use Rattle.ov_tally.proofs.Cutting.{pairs_total}
use Rattle.ov_tally.proofs.Sorting.{Rises, apart, below, one-list, placed-all, sorted-all, sorted-kept, sorted-rises, tie, ties-together, upto-all}
use Rattle.ov_tally.proofs.Tallies.{counted_counts}

-- ---- what holds of each element

pub weaken : {X : Type 0} (P Q : X → Type 0) → ((x : X) → P x → Q x) → (xs : List X) → AllByRecursion P xs → AllByRecursion Q xs
weaken P Q gives [] all = tt
weaken P Q gives (x ∷ xs) all = (gives x all.0, weaken P Q gives xs all.1)

join : {X : Type 0} (P Q R : X → Type 0) → ((x : X) → P x → Q x → R x) → (xs : List X) → AllByRecursion P xs → AllByRecursion Q xs → AllByRecursion R xs
join P Q R gives [] a b = tt
join P Q R gives (x ∷ xs) a b = (gives x a.0 b.0, join P Q R gives xs a.1 b.1)

pub all_map : {X Y : Type 0} (P : Y → Type 0) (f : X → Y) (xs : List X) → AllByRecursion (λ x. P (f x)) xs → AllByRecursion P (map f xs)
all_map P f [] all = tt
all_map P f (x ∷ xs) all = (all.0, all_map P f xs all.1)

pub all_append : {X : Type 0} (P : X → Type 0) (xs ys : List X) → AllByRecursion P xs → AllByRecursion P ys → AllByRecursion P (xs ++ ys)
all_append P [] ys a b = b
all_append P (x ∷ xs) ys a b = (a.0, all_append P xs ys a.1 b)

every : {X : Type 0} (P : X → Type 0) → ((x : X) → P x) → (xs : List X) → AllByRecursion P xs
every P gives [] = tt
every P gives (x ∷ xs) = (gives x, every P gives xs)

kept : {X : Type 0} (P : X → Type 0) (q : X → Bool) (xs : List X) → AllByRecursion (λ x. q x ≡ true → P x) xs → AllByRecursion P (filter q xs)
kept P q [] all = tt
kept P q (x ∷ xs) all = by (q x) refl (kept P q xs all.1)
  where
    by : (b : Bool) → q x ≡ b → AllByRecursion P (filter q xs) → AllByRecursion P (cond b (x ∷ filter q xs) (filter q xs))
    by true e rest = (all.0 e, rest)
    by false e rest = rest

-- ---- rows that rise by version and key

abbrev pub Ups : List Pair → Type 0
Ups [] = ⊤
Ups (x ∷ xs) = AllByRecursion (λ y. row_order x y ≡ Less) xs × Ups xs

placed_rows : (x : Pair) (ys : List Pair) → Rises pair_order ys → AllByRecursion (λ y. is_gt (row_order x y) ≡ false) ys → Rises pair_order (placed_by rank_order x ys)
placed_rows x [] up all = (tt, tt)
placed_rows x (y ∷ ys) up all = by (rank_order x y) refl (placed_rows x ys up.1 all.1)
  where
    front : is_gt (pair_order x y) ≡ false → Rises pair_order (x ∷ y ∷ ys)
    front le = ((le, upto-all pair_order pairs_total x y ys le up.0), up)

    by : (o : Ordering) → rank_order x y ≡ o → Rises pair_order (placed_by rank_order x ys) → Rises pair_order (if is_above o then y ∷ placed_by rank_order x ys else x ∷ y ∷ ys)
    by Less e rest = front (ap (λ o. is_gt (ordering_then o (row_order x y))) e)
    by Equal e rest = front (ap (λ o. is_gt (ordering_then o (row_order x y))) e ∙ all.0)
    by Greater e rest = (placed-all (λ z. is_gt (pair_order y z) ≡ false) rank_order x ys (ap (λ o. is_gt (ordering_then o (row_order y x))) (nat_cmp_total.antisymm y.rank x.rank ∙ ap ordering_reverse e)) up.0, rest)

sorted_rows : (rows : List Pair) → Ups rows → Rises pair_order (sorted_by rank_order rows)
sorted_rows [] up = tt
sorted_rows (x ∷ rows) up =
    placed_rows x (sorted_by rank_order rows) (sorted_rows rows up.1)
    (sorted-all (λ y. is_gt (row_order x y) ≡ false) rank_order rows (weaken (λ y. row_order x y ≡ Less) (λ y. is_gt (row_order x y) ≡ false) (λ y e. ap is_gt e) rows up.0))

then_first : (o p : Ordering) → ordering_then o p ≡ Equal → o ≡ Equal
then_first Less p e = e
then_first Equal p e = refl
then_first Greater p e = e

then_next : (o p : Ordering) → ordering_then o p ≡ Equal → p ≡ Equal
then_next Less p e = absurd (true≢false (ap is_lt e))
then_next Equal p e = e
then_next Greater p e = absurd (true≢false (ap is_gt e))

tied : (z x y : Pair) → ties (below pair_order) z x ≡ true → ties (below pair_order) z y ≡ true → pair_order x y ≡ Equal
tied z x y ex ey = sym (pairs_total.congr z x y (tie pair_order pairs_total z x ex)) ∙ tie pair_order pairs_total z y ey

rows_kept : (z : Pair) (rows : List Pair) → filter (ties (below pair_order) z) (sorted_by rank_order rows) ≡ filter (ties (below pair_order) z) rows
rows_kept z rows =
    sorted-kept rank_order (ties (below pair_order) z) (λ x y ex ey above. apart (rank_order x y) (then_first (rank_order x y) (row_order x y) (tied z x y ex ey)) above) rows

-- ---- no two rows are alike

clash : (o : Ordering) → o ≡ Less → o ≡ Equal → ⊥
clash o less equal = true≢false (ap is_lt (sym less ∙ equal))

rows_total : IsTotalOrder row_order
rows_total = then_total (on_total (λ (p : Pair). p.version) nat_cmp_total) (on_total (λ (p : Pair). p.key) nat_cmp_total)

abbrev Alike : List Pair → Pair → Type 0
Alike rows a = AllByRecursion (λ b. pair_order a b ≡ Equal → a ≡ b) rows

alike : (rows : List Pair) → Ups rows → AllByRecursion (Alike rows) rows
alike [] up = tt
alike (x ∷ rows) up = (
  (λ e. refl, weaken (λ y. row_order x y ≡ Less) (λ y. pair_order x y ≡ Equal → x ≡ y) (λ y less e. absurd (clash (row_order x y) less (then_next (rank_order x y) (row_order x y) e))) rows up.0),
  join (λ y. row_order x y ≡ Less) (Alike rows) (Alike (x ∷ rows))
      (λ y less rest. (λ e. absurd (clash (row_order x y) less (rows_total.antisymm x y ∙ ap ordering_reverse (then_next (rank_order y x) (row_order y x) e))), rest)) rows up.0 (alike rows up.1),
)

all_same : (as_ bs : List Pair) → length as_ ≡ length bs → AllByRecursion (λ a. AllByRecursion (λ b. a ≡ b) bs) as_ → as_ ≡ bs
all_same [] [] long all = refl
all_same [] (b ∷ bs) long all = absurd (omega (arith, long))
all_same (a ∷ as_) [] long all = absurd (omega (arith, long))
all_same (a ∷ as_) (b ∷ bs) long all =
    ap₂ (λ x l. x ∷ l) all.0.0 (all_same as_ bs (omega (arith, long)) (weaken (λ x. AllByRecursion (λ y. x ≡ y) (b ∷ bs)) (λ x. AllByRecursion (λ y. x ≡ y) bs) (λ x each. each.1) as_ all.1))

same_ties : (pairs rows : List Pair) → IsPermutation pairs rows → Ups rows → (z : Pair) → filter (ties (below pair_order) z) pairs ≡ filter (ties (below pair_order) z) rows
same_ties pairs rows same up z = all_same (filter q pairs) (filter q rows) long each
  where
    q : Pair → Bool
    q = ties (below pair_order) z

    long : length (filter q pairs) ≡ length (filter q rows)
    long = length-filter q pairs ∙ sym (sum_by-IsPermutation (λ x. cond (q x) 1 0) pairs rows same) ∙ sym (length-filter q rows)

    alikes : AllByRecursion (Alike rows) pairs
    alikes = recursion_from_All (Alike rows) pairs (All-permutation (Alike rows) rows pairs (IsPermutation-sym pairs rows same) (All-from_recursion (Alike rows) rows (alike rows up)))

    each : AllByRecursion (λ a. AllByRecursion (λ b. a ≡ b) (filter q rows)) (filter q pairs)
    each = kept (λ a. AllByRecursion (λ b. a ≡ b) (filter q rows)) q pairs
        (weaken (Alike rows) (λ a. q a ≡ true → AllByRecursion (λ b. a ≡ b) (filter q rows))
        (λ a all ea. kept (λ b. a ≡ b) q rows (weaken (λ b. pair_order a b ≡ Equal → a ≡ b) (λ b. q b ≡ true → a ≡ b) (λ b gives eb. gives (tied z a b ea eb)) rows all)) pairs alikes)

pub ranked_pairs : (pairs rows : List Pair) → IsPermutation pairs rows → Ups rows → sorted_by pair_order pairs ≡ sorted_by rank_order rows
ranked_pairs pairs rows same up =
    one-list pair_order pairs_total (sorted_by pair_order pairs) (sorted_by rank_order rows) (sorted-rises pair_order pairs_total pairs) (sorted_rows rows up)
    (λ z. sorted-kept pair_order (ties (below pair_order) z) (ties-together pair_order pairs_total z) pairs ∙ same_ties pairs rows same up z ∙ sym (rows_kept z rows))

-- ---- the rows of versions

ups_append : (xs ys : List Pair) → Ups xs → Ups ys → AllByRecursion (λ x. AllByRecursion (λ y. row_order x y ≡ Less) ys) xs → Ups (xs ++ ys)
ups_append [] ys a b across = b
ups_append (x ∷ xs) ys a b across = (all_append (λ y. row_order x y ≡ Less) xs ys a.0 across.0, ups_append xs ys a.1 b across.1)

module _ (ranks keys : List ℕ) where
  by_key : (n p q : ℕ) → get_or keys p 0 < get_or keys q 0 → row_order (pair_at n ranks keys p) (pair_at n ranks keys q) ≡ Less
  by_key n p q up = ap (λ o. ordering_then o (nat_cmp (get_or keys p 0) (get_or keys q 0))) (sym (nat_cmp_is n n Equal refl)) ∙ sym (nat_cmp_is (get_or keys p 0) (get_or keys q 0) Less up)

  by_version : (n p : ℕ) (y : Pair) → n < y.version → row_order (pair_at n ranks keys p) y ≡ Less
  by_version n p y up = ap (λ o. ordering_then o (nat_cmp (get_or keys p 0) y.key)) (sym (nat_cmp_is n y.version Less up))

  pick_ups : (n : ℕ) (pick : List ℕ) → KeysRise keys pick → Ups (map (pair_at n ranks keys) pick)
  pick_ups n [] rise = tt
  pick_ups n (p ∷ pick) rise = (
    all_map (λ y. row_order (pair_at n ranks keys p) y ≡ Less) (pair_at n ranks keys) pick (weaken (λ q. get_or keys p 0 < get_or keys q 0) (λ q. row_order (pair_at n ranks keys p) (pair_at n ranks keys q) ≡ Less) (by_key n p) pick rise.0),
    pick_ups n pick rise.1,
  )

  numbered : (n m : ℕ) (picks : List (List ℕ)) → n < m → AllByRecursion (λ y. n < y.version) (rows_from m ranks keys picks)
  numbered n m [] up = tt
  numbered n m (pick ∷ picks) up =
      all_append (λ y. n < y.version) (map (pair_at m ranks keys) pick) (rows_from (suc m) ranks keys picks) (all_map (λ y. n < y.version) (pair_at m ranks keys) pick (every (λ p. n < m) (λ p. up) pick)) (numbered n (suc m) picks (omega (arith, up)))

  pub rows_ups : (n : ℕ) (versions : List Spans) (picks : List (List ℕ)) → AllZip (InKeyOrder keys) versions picks → Ups (rows_from n ranks keys picks)
  rows_ups n [] [] each = tt
  rows_ups n [] (pick ∷ picks) each = absurd each
  rows_ups n (v ∷ versions) [] each = absurd each
  rows_ups n (v ∷ versions) (pick ∷ picks) each =
      ups_append (map (pair_at n ranks keys) pick) (rows_from (suc n) ranks keys picks) (pick_ups n pick each.0.rise) (rows_ups (suc n) versions picks each.1)
      (all_map (λ x. AllByRecursion (λ y. row_order x y ≡ Less) (rows_from (suc n) ranks keys picks)) (pair_at n ranks keys) pick
      (every (λ p. AllByRecursion (λ y. row_order (pair_at n ranks keys p) y ≡ Less) (rows_from (suc n) ranks keys picks))
      (λ p. weaken (λ y. n < y.version) (λ y. row_order (pair_at n ranks keys p) y ≡ Less) (by_version n p) (rows_from (suc n) ranks keys picks) (numbered n (suc n) picks (omega arith))) pick))

  pub rows_same : (n : ℕ) (versions : List Spans) (picks : List (List ℕ)) → AllZip (InKeyOrder keys) versions picks → IsPermutation (pairs_from n ranks keys versions) (rows_from n ranks keys picks)
  rows_same n [] [] each = IsPermutation-refl []
  rows_same n [] (pick ∷ picks) each = absurd each
  rows_same n (v ∷ versions) [] each = absurd each
  rows_same n (v ∷ versions) (pick ∷ picks) each =
      IsPermutation-append (pairs_in n ranks keys v.items) (map (pair_at n ranks keys) pick) (pairs_from (suc n) ranks keys versions) (rows_from (suc n) ranks keys picks)
      (IsPermutation-map (pair_at n ranks keys) (places_in v.items) pick each.0.same) (rows_same (suc n) versions picks each.1)

  -- ---- how many are low

  sum_map : (f : Pair → ℕ) (n : ℕ) (places : List ℕ) → sum_by f (map (pair_at n ranks keys) places) ≡ sum_by (λ p. f (pair_at n ranks keys p)) places
  sum_map f n [] = refl
  sum_map f n (p ∷ places) = sum_by-cons f (pair_at n ranks keys p) (map (pair_at n ranks keys) places) ∙ ap (λ m. f (pair_at n ranks keys p) + m) (sum_map f n places) ∙ sym (sum_by-cons (λ q. f (pair_at n ranks keys q)) p places)

  low_sum : (bound n : ℕ) (versions : List Spans) → count_by (is_low bound) (pairs_from n ranks keys versions) ≡ sum_by (λ p. cond (nat_lt (get_or ranks p 0) bound) 1 0) (places_of versions)
  low_sum bound n [] = refl
  low_sum bound n (v ∷ versions) =
      sum_by-append (λ x. cond (is_low bound x) 1 0) (pairs_in n ranks keys v.items) (pairs_from (suc n) ranks keys versions)
      ∙ ap₂ (λ a b. a + b) (sum_map (λ x. cond (is_low bound x) 1 0) n (places_in v.items)) (low_sum bound (suc n) versions)
      ∙ sym (sum_by-append (λ p. cond (nat_lt (get_or ranks p 0) bound) 1 0) (places_in v.items) (places_of versions))

pub rows_ranked : (ranks keys : List ℕ) (versions : List Spans) (picks : List (List ℕ)) → AllZip (InKeyOrder keys) versions picks → sorted_by pair_order (pairs_of ranks keys versions) ≡ sorted_by rank_order (rows_of ranks keys picks)
rows_ranked ranks keys versions picks each = ranked_pairs (pairs_of ranks keys versions) (rows_of ranks keys picks) (rows_same ranks keys 0 versions picks each) (rows_ups ranks keys 0 versions picks each)

pub low_counted : (ranks keys : List ℕ) (bound count : ℕ) (versions : List Spans) → All (AreBelow (count + 1)) versions
    → length (filter (is_low bound) (pairs_of ranks keys versions)) ≡ sum_by (λ p. times versions p * cond (nat_lt (get_or ranks p 0) bound) 1 0) (run 0 count)
low_counted ranks keys bound count versions below =
    length-filter (is_low bound) (pairs_of ranks keys versions) ∙ low_sum ranks keys bound 0 versions ∙ counted_counts (λ p. cond (nat_lt (get_or ranks p 0) bound) 1 0) count versions below
