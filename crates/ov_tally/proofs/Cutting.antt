-- What is low stands in front of the rest.
use Rattle.std.proofs.Common.{add-one, drop, drop-cons, map, ◌≡◌, ◌≤◌, ◌<◌, ◌+◌, ◌++◌, ◌∷◌, ◌∙◌, [], ℕ, zero, suc, List, Bool, true, false, not, cond, if◌then◌else◌, refl, sym, ap, ap₂, arith, length, take, filter, true≢false, get_or, ◌-◌, append_assoc, append-nil}
use Rattle.std.specs.List.{AllByRecursion}
use Rattle.std.specs.declared.cmp.Ordering.{Ordering}
use Rattle.std.specs.Prelude.{nat_lt}
use Rattle.std.specs.Ordering.{nat_cmp, ordering_then}
use Rattle.std.proofs.Math.ListN.{drop_of_length-le}
use Rattle.std.proofs.lemmas.List.{map-append}
use Rattle.std.proofs.lemmas.List.Elements.{filter-append}
use Rattle.std.specs.Cmp.{IsTotalOrder, nat_cmp_is}
use Rattle.std.proofs.lemmas.Cmp.{nat_cmp_total, on_total, then_total}
use Rattle.std.specs.declared.cmp.Ordering.TheVariants.{Less, Greater}
use Rattle.std.proofs.lemmas.Bool.{ltb-true, ltb-false}
use Rattle.ov_tally.specs.declared.first.Pair.{Pair}
use Rattle.ov_tally.specs.declared.span.Span.{Span}
use Rattle.ov_tally.specs.Ranks.{is_above, is_low, pair_at, pair_order, pairs_from, pairs_in, placed_by, row_order, sorted_by}
use Rattle.ov_tally.specs.Spans.{Spans, places_in, run}
use Rattle.ov_tally.proofs.Sorting.{sorted-all}

module _ {X : Type 0} (o : X → X → Ordering) (low : X → Bool) where
  -- what is low is above nothing else, and all else is above it
  abbrev pub IsDown : Type 0
  IsDown = ((x y : X) → low x ≡ true → low y ≡ false → is_above (o x y) ≡ false) × ((x y : X) → low x ≡ false → low y ≡ true → is_above (o x y) ≡ true)

  choose_append : (b : Bool) (xs ys zs : List X) → (if b then xs else ys) ++ zs ≡ (if b then xs ++ zs else ys ++ zs)
  choose_append true xs ys zs = refl
  choose_append false xs ys zs = refl

  placed_low : IsDown → (x : X) (as_ bs : List X) → low x ≡ true → AllByRecursion (λ y. low y ≡ false) bs → placed_by o x (as_ ++ bs) ≡ placed_by o x as_ ++ bs
  placed_low down x [] [] is all = refl
  placed_low down x [] (b ∷ bs) is all = ap (λ t. if t then b ∷ placed_by o x bs else x ∷ b ∷ bs) (down.0 x b is all.0)
  placed_low down x (a ∷ as_) bs is all =
      ap (λ l. if is_above (o x a) then a ∷ l else x ∷ a ∷ (as_ ++ bs)) (placed_low down x as_ bs is all) ∙ sym (choose_append (is_above (o x a)) (a ∷ placed_by o x as_) (x ∷ a ∷ as_) bs)

  placed_high : IsDown → (x : X) (as_ bs : List X) → low x ≡ false → AllByRecursion (λ y. low y ≡ true) as_ → placed_by o x (as_ ++ bs) ≡ as_ ++ placed_by o x bs
  placed_high down x [] bs is all = refl
  placed_high down x (a ∷ as_) bs is all =
      ap (λ t. if t then a ∷ placed_by o x (as_ ++ bs) else x ∷ a ∷ (as_ ++ bs)) (down.1 x a is all.0) ∙ ap (λ l. a ∷ l) (placed_high down x as_ bs is all.1)

  kept_all : (test : X → Bool) → (P : X → Type 0) → ((x : X) → test x ≡ true → P x) → (xs : List X) → AllByRecursion P (filter test xs)
  kept_all test P gives [] = tt
  kept_all test P gives (x ∷ xs) = by (test x) refl (kept_all test P gives xs)
    where
      by : (b : Bool) → test x ≡ b → AllByRecursion P (filter test xs) → AllByRecursion P (cond b (x ∷ filter test xs) (filter test xs))
      by true is rest = (gives x is, rest)
      by false is rest = rest

  false_of : (b : Bool) → not b ≡ true → b ≡ false
  false_of true e = absurd (true≢false (sym e))
  false_of false e = refl

  abbrev pub high : X → Bool
  high x = not (low x)

  pub sorted_split : IsDown → (xs : List X) → sorted_by o xs ≡ sorted_by o (filter low xs) ++ sorted_by o (filter high xs)
  sorted_split down [] = refl
  sorted_split down (x ∷ xs) = ap (placed_by o x) (sorted_split down xs) ∙ by (low x) refl
    where
      lows : List X
      lows = sorted_by o (filter low xs)

      highs : List X
      highs = sorted_by o (filter high xs)

      all_low : AllByRecursion (λ y. low y ≡ true) lows
      all_low = sorted-all (λ y. low y ≡ true) o (filter low xs) (kept_all low (λ y. low y ≡ true) (λ y is. is) xs)

      all_high : AllByRecursion (λ y. low y ≡ false) highs
      all_high = sorted-all (λ y. low y ≡ false) o (filter high xs) (kept_all high (λ y. low y ≡ false) (λ y is. false_of (low y) is) xs)

      by : (b : Bool) → low x ≡ b → placed_by o x (lows ++ highs) ≡ sorted_by o (cond b (x ∷ filter low xs) (filter low xs)) ++ sorted_by o (cond (not b) (x ∷ filter high xs) (filter high xs))
      by true is = placed_low down x lows highs is all_high
      by false is = placed_high down x lows highs is all_low

  placed_length : (x : X) (ys : List X) → length (placed_by o x ys) ≡ suc (length ys)
  placed_length x [] = refl
  placed_length x (y ∷ ys) = by (is_above (o x y)) (placed_length x ys)
    where
      by : (b : Bool) → length (placed_by o x ys) ≡ suc (length ys) → length (if b then y ∷ placed_by o x ys else x ∷ y ∷ ys) ≡ suc (suc (length ys))
      by true rest = ap suc rest
      by false rest = refl

  pub sorted_length : (xs : List X) → length (sorted_by o xs) ≡ length xs
  sorted_length [] = refl
  sorted_length (x ∷ xs) = placed_length x (sorted_by o xs) ∙ ap suc (sorted_length xs)

  take_front : (k : ℕ) (as_ bs : List X) → k ≤ length as_ → take k (as_ ++ bs) ≡ take k as_
  take_front zero as_ bs few = refl
  take_front (suc k) [] bs few = absurd (omega (arith, few))
  take_front (suc k) (a ∷ as_) bs few = ap (λ l. a ∷ l) (take_front k as_ bs (omega (arith, few)))

  -- the first ones of the order are the first ones of what is low, where that is as many
  pub first_low : IsDown → (k : ℕ) (xs : List X) → k ≤ length (filter low xs) → take k (sorted_by o xs) ≡ take k (sorted_by o (filter low xs))
  first_low down k xs few = ap (take k) (sorted_split down xs) ∙ take_front k (sorted_by o (filter low xs)) (sorted_by o (filter high xs)) (rw (sorted_length (filter low xs)) few)

-- a bound on ranks
less : (a b : ℕ) → a < b → nat_cmp a b ≡ Less
less a b up = sym (nat_cmp_is a b Less up)

more : (a b : ℕ) → b < a → nat_cmp a b ≡ Greater
more a b up = sym (nat_cmp_is a b Greater up)

low_here : (a b n : ℕ) (o : Ordering) → nat_lt a n ≡ true → nat_lt b n ≡ false → is_above (ordering_then (nat_cmp a b) o) ≡ false
low_here a b n o la lb = ap (λ p. is_above (ordering_then p o)) (less a b (let p = ltb-true a n la in let q = ltb-false b n lb in omega (arith, p, q)))

high_here : (a b n : ℕ) (o : Ordering) → nat_lt a n ≡ false → nat_lt b n ≡ true → is_above (ordering_then (nat_cmp a b) o) ≡ true
high_here a b n o la lb = ap (λ p. is_above (ordering_then p o)) (more a b (let p = ltb-true b n lb in let q = ltb-false a n la in omega (arith, p, q)))

pub ranks_down : (bound : ℕ) → IsDown pair_order (is_low bound)
ranks_down bound = (λ x y lx ly. low_here x.rank y.rank bound (row_order x y) lx ly, λ x y lx ly. high_here x.rank y.rank bound (row_order x y) lx ly)

pub pairs_total : IsTotalOrder pair_order
pairs_total = then_total (on_total (λ (p : Pair). p.rank) nat_cmp_total) (then_total (on_total (λ (p : Pair). p.version) nat_cmp_total) (on_total (λ (p : Pair). p.key) nat_cmp_total))

pub first_ranked : (bound k : ℕ) (pairs kept first : List Pair) → kept ≡ filter (is_low bound) pairs → first ≡ take k (sorted_by pair_order kept) → k ≤ length (filter (is_low bound) pairs)
    → first ≡ take k (sorted_by pair_order pairs)
first_ranked bound k pairs kept first is order few = order ∙ ap (λ l. take k (sorted_by pair_order l)) is ∙ sym (first_low pair_order (is_low bound) (ranks_down bound) k pairs few)

-- the pairs of a range
abbrev pub pairs_at : ℕ → List ℕ → List ℕ → ℕ → ℕ → List Pair
pairs_at version ranks keys place past = map (pair_at version ranks keys) (run place (past - place))

pub one_range : (version : ℕ) (ranks keys : List ℕ) (span : Span) → pairs_in version ranks keys (span ∷ []) ≡ pairs_at version ranks keys span.first span.past
one_range version ranks keys span = ap (map (pair_at version ranks keys)) (append-nil (run span.first (span.past - span.first)))

-- a position more of a range
pub low_more : (version : ℕ) (ranks keys : List ℕ) (place past bound rank : ℕ) (kept new all : List Pair) → place < past → rank ≡ get_or ranks place 0
    → new ≡ kept ++ filter (is_low bound) (record { rank = rank; version = version; key = get_or keys place 0; place = place } ∷ [])
    → kept ++ filter (is_low bound) (pairs_at version ranks keys place past) ≡ all
    → new ++ filter (is_low bound) (pairs_at version ranks keys (place + 1) past) ≡ all
unfolding run
low_more version ranks keys place past bound rank kept new all low is push before =
    ap (λ l. l ++ later) push ∙ ap (λ n. (kept ++ filter (is_low bound) (record { rank = n; version = version; key = get_or keys place 0; place = place } ∷ [])) ++ later) is
    ∙ append_assoc kept (filter (is_low bound) (one ∷ [])) later ∙ ap (λ l. kept ++ l) (joined (is_low bound one)) ∙ ap (λ l. kept ++ filter (is_low bound) l) whole ∙ before
  where
    one : Pair
    one = pair_at version ranks keys place

    rest : List Pair
    rest = pairs_at version ranks keys (place + 1) past

    later : List Pair
    later = filter (is_low bound) rest

    joined : (b : Bool) → cond b (one ∷ []) [] ++ later ≡ cond b (one ∷ later) later
    joined true = refl
    joined false = refl

    whole : one ∷ rest ≡ pairs_at version ranks keys place past
    whole = let e : past - place ≡ suc (past - (place + 1)) = omega (arith, low) in let f : place + 1 ≡ suc place = omega arith in
        ap (λ n. one ∷ map (pair_at version ranks keys) (run n (past - (place + 1)))) f ∙ ap (λ n. map (pair_at version ranks keys) (run place n)) (sym e)

pub none_left : (version : ℕ) (ranks keys : List ℕ) (place past bound : ℕ) (kept all : List Pair) → past ≤ place → kept ++ filter (is_low bound) (pairs_at version ranks keys place past) ≡ all → kept ≡ all
unfolding run
none_left version ranks keys place past bound kept all over before =
    let e : past - place ≡ 0 = omega (arith, over) in
    sym (append-nil kept) ∙ ap (λ n. kept ++ filter (is_low bound) (map (pair_at version ranks keys) (run place n))) (sym e) ∙ before

-- a part more
part_more : (bound : ℕ) (kept new one rest all : List Pair) → new ≡ kept ++ filter (is_low bound) one → kept ++ filter (is_low bound) (one ++ rest) ≡ all → new ++ filter (is_low bound) rest ≡ all
part_more bound kept new one rest all push before =
    ap (λ l. l ++ filter (is_low bound) rest) push ∙ append_assoc kept (filter (is_low bound) one) (filter (is_low bound) rest) ∙ ap (λ l. kept ++ l) (sym (filter-append (is_low bound) one rest)) ∙ before

-- a range more of a version
pub span_more : (version : ℕ) (ranks keys : List ℕ) (spans : List Span) (i bound : ℕ) (d : Span) (kept new all : List Pair) → i < length spans
    → new ≡ kept ++ filter (is_low bound) (pairs_in version ranks keys (get_or spans i d ∷ []))
    → kept ++ filter (is_low bound) (pairs_in version ranks keys (drop i spans)) ≡ all → new ++ filter (is_low bound) (pairs_in version ranks keys (drop (i + 1) spans)) ≡ all
span_more version ranks keys spans i bound d kept new all low push before =
    part_more bound kept new (pairs_in version ranks keys (s ∷ [])) (pairs_in version ranks keys (drop (i + 1) spans)) all push (ap (λ l. kept ++ filter (is_low bound) l) (sym whole) ∙ before)
  where
    s : Span
    s = get_or spans i d

    front : drop i spans ≡ s ∷ drop (i + 1) spans
    front = rw (add-one i) (drop-cons spans i d low)

    whole : pairs_in version ranks keys (drop i spans) ≡ pairs_in version ranks keys (s ∷ []) ++ pairs_in version ranks keys (drop (i + 1) spans)
    whole = ap (pairs_in version ranks keys) front ∙ map-append (pair_at version ranks keys) (run s.first (s.past - s.first)) (places_in (drop (i + 1) spans))
        ∙ ap (λ l. l ++ pairs_in version ranks keys (drop (i + 1) spans)) (sym (one_range version ranks keys s))

-- a version more
pub version_more : (ranks keys : List ℕ) (versions : List Spans) (i bound version : ℕ) (s : Spans) (spans : List Span) (kept new all : List Pair) → i < length versions → version ≡ i → s ≡ get_or versions i s → spans ≡ s.items
    → new ≡ kept ++ filter (is_low bound) (pairs_in version ranks keys spans)
    → kept ++ filter (is_low bound) (pairs_from i ranks keys (drop i versions)) ≡ all → new ++ filter (is_low bound) (pairs_from (i + 1) ranks keys (drop (i + 1) versions)) ≡ all
version_more ranks keys versions i bound version s spans kept new all low number here are push before =
    part_more bound kept new (pairs_in i ranks keys s.items) (pairs_from (i + 1) ranks keys (drop (i + 1) versions)) all
    (push ∙ ap₂ (λ n l. kept ++ filter (is_low bound) (pairs_in n ranks keys l)) number are) (ap (λ l. kept ++ filter (is_low bound) l) (sym whole) ∙ before)
  where
    front : drop i versions ≡ s ∷ drop (i + 1) versions
    front = rw (add-one i) (drop-cons versions i s low) ∙ ap (λ v. v ∷ drop (i + 1) versions) (sym here)

    whole : pairs_from i ranks keys (drop i versions) ≡ pairs_in i ranks keys s.items ++ pairs_from (i + 1) ranks keys (drop (i + 1) versions)
    whole = ap (pairs_from i ranks keys) front ∙ ap (λ n. pairs_in i ranks keys s.items ++ pairs_from n ranks keys (drop (i + 1) versions)) (sym (add-one i))

pub all_kept : (bound n : ℕ) (ranks keys : List ℕ) (versions : List Spans) (i : ℕ) (kept all : List Pair) → length versions ≤ i → kept ++ filter (is_low bound) (pairs_from n ranks keys (drop i versions)) ≡ all → kept ≡ all
all_kept bound n ranks keys versions i kept all past before = sym (ap (λ l. kept ++ filter (is_low bound) (pairs_from n ranks keys l)) (drop_of_length-le versions past) ∙ append-nil kept) ∙ before

pub spans_kept : (bound n : ℕ) (ranks keys : List ℕ) (spans : List Span) (i : ℕ) (kept all : List Pair) → length spans ≤ i → kept ++ filter (is_low bound) (pairs_in n ranks keys (drop i spans)) ≡ all → kept ≡ all
spans_kept bound n ranks keys spans i kept all past before = sym (ap (λ l. kept ++ filter (is_low bound) (pairs_in n ranks keys l)) (drop_of_length-le spans past) ∙ append-nil kept) ∙ before
