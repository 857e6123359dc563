-- Groups of spots, and the definitions over whole rows.
use Rattle.std.proofs.Common.{◌≡◌, ◌<◌, ◌∷◌, ◌∙◌, [], ℕ, zero, suc, List, Bool, true, false, not, cond, ap, ap₂, refl, sym, length, map, drop, take, get_or, filter, is_eq, arith, Ordering, Equal, Option, Some, None, if◌then◌else◌, true≢false, eqb-true, ◌==◌}
use Rattle.std.specs.List.{All, AllByRecursion}
use Rattle.std.specs.Ordering.{on}
use Rattle.ov_value.specs.Rows.{Fits}
use Rattle.ov_value.specs.Shapes.{Shape}
use Rattle.ov_value.specs.declared.value.Value.{Value}
use Rattle.ov_model.specs.Book.{Row}
use Rattle.ov_model.specs.Answers.{Pair, Related, distinct_keys, group_key, grouped_pairs, groups_of, here_for, is_same_key, limited, list_order, order_by, placed_by, sorted_by}
use Rattle.ov_model.specs.declared.answer.Cell.{Cell}
use Rattle.ov_model.specs.declared.query.Col.{Col}
use Rattle.ov_model.specs.declared.query.Key.{Key}
use Rattle.ov_terms.specs.declared.spot.Spot.{Spot}
use Rattle.ov_terms.specs.Standing.{pair_at, pairs_at}
use Rattle.ov_qrun.specs.declared.places.Place.{Place}
use Rattle.ov_terms.specs.declared.found_term.FoundTerm.{FoundTerm}
use Rattle.ov_terms.specs.declared.lookup.Lookup.{Lookup}
use Rattle.ov_qrun.specs.Keys.{cells_in, has_same_key, keys_for, named_keys, pairs_of, place_order, spot_order}
use Rattle.ov_qrun.specs.Plans.{AreKeys, AreLookups}
use Rattle.ov_qrun.specs.Ranking.{ranked_by, ranked_lists}
use Rattle.ov_qrun.specs.Runs.{cut, run_items}
use Rattle.ov_qrun.proofs.Grouping.{differs, distinct_by, groups, same_by, with_key}
use Rattle.ov_qrun.proofs.CellKinds.{IsOfKinds, KeyIs, PairFits, key-is, lists-agree, lists-total, no-row, order-agree, row-kinds}
use Rattle.ov_qrun.proofs.Sorting.{filter-all, sorted-agree, sorted-all, sorted-map}

filter-agree : {X : Type 0} (p q : X → Bool) (P : X → Type 0) → ((x : X) → P x → p x ≡ q x) → (xs : List X) → AllByRecursion P xs → filter p xs ≡ filter q xs
filter-agree p q P same [] all = refl
filter-agree p q P same (x ∷ xs) all =
    ap (λ b. cond b (x ∷ filter p xs) (filter p xs)) (same x all.0) ∙ ap (λ l. cond (q x) (x ∷ l) l) (filter-agree p q P same xs all.1)

map-agree : {X Y : Type 0} (f g : X → Y) (P : X → Type 0) → ((x : X) → P x → f x ≡ g x) → (xs : List X) → AllByRecursion P xs → map f xs ≡ map g xs
map-agree f g P same [] all = refl
map-agree f g P same (x ∷ xs) all = ap (λ y. y ∷ map f xs) (same x all.0) ∙ ap (λ l. g x ∷ l) (map-agree f g P same xs all.1)

pub filter-map : {X Y : Type 0} (p : Y → Bool) (f : X → Y) (xs : List X) → filter p (map f xs) ≡ map f (filter (λ x. p (f x)) xs)
filter-map p f [] = refl
filter-map p f (x ∷ xs) = ap (λ l. cond (p (f x)) (f x ∷ l) l) (filter-map p f xs) ∙ map-cond (p (f x)) where
  map-cond : (b : Bool) → cond b (f x ∷ map f (filter (λ y. p (f y)) xs)) (map f (filter (λ y. p (f y)) xs)) ≡ map f (cond b (x ∷ filter (λ y. p (f y)) xs) (filter (λ y. p (f y)) xs))
  map-cond true = refl
  map-cond false = refl

pub map-through : {A B C : Type 0} (g : B → C) (f : A → B) (xs : List A) → map g (map f xs) ≡ map (λ x. g (f x)) xs
map-through g f [] = refl
map-through g f (x ∷ xs) = ap (λ l. g (f x) ∷ l) (map-through g f xs)

-- the values of the group columns of a query, at a spot
abbrev named_key : Shape → List Row → List Col → Spot → List Cell
named_key schema rows cs spot = group_key schema cs (pair_at rows spot)

abbrev named_order : Shape → List Row → List Col → Spot → Spot → Ordering
named_order schema rows cs = on (named_key schema rows cs) ranked_lists

-- those that were found are the same
order-found : (schema : Shape) (rows : List Row) (cs : List Col) (found : List Lookup) → AreLookups schema cs found
    → spot_order rows found ≡ named_order schema rows cs
order-found schema rows cs found are = λ i a b. ranked_lists (are (pair_at rows a) i) (are (pair_at rows b) i)

abbrev pub SpotsFit : Shape → List Row → Type 0
SpotsFit schema rows = (spot : Spot) → PairFits schema (pair_at rows spot)

keys-are : (schema : Shape) (rows : List Row) (cs : List Col) → SpotsFit schema rows → (ks : List Spot)
    → AllByRecursion (KeyIs schema cs) (map (named_key schema rows cs) ks)
keys-are schema rows cs fit [] = tt
keys-are schema rows cs fit (s ∷ ks) = (key-is schema cs (pair_at rows s) (fit s), keys-are schema rows cs fit ks)

distinct-all : (P : List Cell → Type 0) (ks : List (List Cell)) → AllByRecursion P ks → AllByRecursion P (distinct_by ranked_lists ks)
distinct-all P [] all = tt
distinct-all P (k ∷ ks) all = (all.0, filter-all P (differs ranked_lists k) (distinct_by ranked_lists ks) (distinct-all P ks all.1))

distinct-agree : (schema : Shape) (cs : List Col) (ks : List (List Cell)) → AllByRecursion (KeyIs schema cs) ks → distinct_by ranked_lists ks ≡ distinct_keys ks
distinct-agree schema cs [] all = refl
distinct-agree schema cs (k ∷ ks) all =
    ap (λ l. k ∷ l) (
    filter-agree (differs ranked_lists k) (λ other. not (is_same_key k other)) (KeyIs schema cs)
    (λ other is. ap (λ o. not (is_eq o)) (lists-agree schema cs k other all.0 is)) (distinct_by ranked_lists ks) (distinct-all (KeyIs schema cs) ks all.1)
    ∙ ap (filter (λ other. not (is_same_key k other))) (distinct-agree schema cs ks all.1))

-- the pairs of those with a key
members-are : (schema : Shape) (rows : List Row) (cs : List Col) → SpotsFit schema rows → (ks : List Spot) (k : List Cell) → KeyIs schema cs k
    → pairs_at rows (with_key (named_key schema rows cs) ranked_lists ks k) ≡ filter (λ pair. is_same_key k (group_key schema cs pair)) (pairs_at rows ks)
members-are schema rows cs fit ks k is =
    ap (map (pair_at rows)) (agreed ks) ∙ sym (filter-map (λ pair. is_same_key k (group_key schema cs pair)) (pair_at rows) ks) where
      agreed : (ks : List Spot) → filter (λ s. is_eq (ranked_lists k (named_key schema rows cs s))) ks ≡ filter (λ s. is_same_key k (named_key schema rows cs s)) ks
      agreed [] = refl
      agreed (s ∷ ks) =
          ap (λ o. cond (is_eq o) (s ∷ filter (λ s. is_eq (ranked_lists k (named_key schema rows cs s))) ks) (filter (λ s. is_eq (ranked_lists k (named_key schema rows cs s))) ks))
          (lists-agree schema cs k (named_key schema rows cs s) is (key-is schema cs (pair_at rows s) (fit s)))
          ∙ ap (λ l. cond (is_same_key k (named_key schema rows cs s)) (s ∷ l) l) (agreed ks)

-- the groups of the definitions are the runs of the spots that were sorted by their keys
pub groups-are : (schema : Shape) (rows : List Row) (cs : List Col) → SpotsFit schema rows → (ks : List Spot)
    → map (λ run. pairs_at rows (run_items run)) (cut (same_by (on (named_key schema rows cs) ranked_lists)) (sorted_by (on (named_key schema rows cs) ranked_lists) ks))
    ≡ groups_of schema cs (pairs_at rows ks)
groups-are schema rows cs fit ks =
    let key : Spot → List Cell = named_key schema rows cs in
    let found : List (List Cell) = map key ks in
    let are : AllByRecursion (KeyIs schema cs) found = keys-are schema rows cs fit ks in
    let distinct : AllByRecursion (KeyIs schema cs) (distinct_by ranked_lists found) = distinct-all (KeyIs schema cs) found are in
    let sorted : sorted_by ranked_lists (distinct_by ranked_lists found) ≡ sorted_by list_order (distinct_keys (map (group_key schema cs) (pairs_at rows ks))) =
    sorted-agree ranked_lists list_order (KeyIs schema cs) (lists-agree schema cs) (distinct_by ranked_lists found) distinct
    ∙ ap (sorted_by list_order) (distinct-agree schema cs found are ∙ ap distinct_keys (sym (map-through (group_key schema cs) (pair_at rows) ks))) in
    sym (map-through (pairs_at rows) run_items (cut (same_by (on key ranked_lists)) (sorted_by (on key ranked_lists) ks)))
    ∙ ap (map (pairs_at rows)) (groups key ranked_lists lists-total ks)
    ∙ map-through (pairs_at rows) (with_key key ranked_lists ks) (sorted_by ranked_lists (distinct_by ranked_lists found))
    ∙ map-agree (λ k. pairs_at rows (with_key key ranked_lists ks k)) (λ k. filter (λ pair. is_same_key k (group_key schema cs pair)) (pairs_at rows ks)) (KeyIs schema cs)
    (members-are schema rows cs fit ks) (sorted_by ranked_lists (distinct_by ranked_lists found))
    (sorted-all (KeyIs schema cs) ranked_lists (distinct_by ranked_lists found) distinct)
    ∙ ap (map (λ k. filter (λ pair. is_same_key k (group_key schema cs pair)) (pairs_at rows ks))) sorted

-- ---- rows that fit

get-any : {X : Type 0} (P : X → Type 0) (xs : List X) (d : X) → All P xs → P d → (k : ℕ) → P (get_or xs k d)
get-any P [] d all pd k = pd
get-any P (x ∷ xs) d all pd zero = all 0 x (omega arith)
get-any P (x ∷ xs) d all pd (suc k) = get-any P xs d (λ j e lt. all (suc j) e (omega (arith, lt))) pd k

fits-kinds : (schema : Shape) (rows : List (List Value)) → All (Fits schema) rows → All (IsOfKinds schema) rows
fits-kinds schema rows all k d lt = row-kinds schema (get_or rows k d) (all k d lt).kinds

pub spots-fit : (schema : Shape) (rows : List Row) → All (Fits schema) rows → SpotsFit schema rows
spots-fit schema rows all spot =
    get-any (IsOfKinds schema) rows [] (fits-kinds schema rows all) (no-row schema) spot.place

pairs-fit : (schema : Shape) (rows : List Row) → SpotsFit schema rows → (group : List Spot) → AllByRecursion (PairFits schema) (pairs_at rows group)
pairs-fit schema rows fit [] = tt
pairs-fit schema rows fit (spot ∷ group) = (fit spot, pairs-fit schema rows fit group)

-- ---- places in their order

each-of : {X Y : Type 0} (f g : X → Y) (xs : List X) → map f xs ≡ map g xs → AllByRecursion (λ x. f x ≡ g x) xs
each-of f g [] e = tt
each-of f g (x ∷ xs) e = (ap (λ l. get_or l 0 (f x)) e, each-of f g xs (ap (drop 1) e))

pub ordered-are : (schema : Shape) (rows : List Row) (related : Related) (order : List Key) (terms : List FoundTerm) (found : List Place) → All (Fits schema) rows
    → AreKeys schema order terms → map cells_in found ≡ map (λ place. keys_for terms (pairs_of rows place)) found
    → map (pairs_of rows) (sorted_by (place_order order) found)
    ≡ sorted_by (λ a b. order_by order (here_for schema related a) (here_for schema related b)) (map (pairs_of rows) found)
ordered-are schema rows related order terms found all are given =
    let keys : map cells_in found ≡ map (λ place. named_keys schema order (pairs_of rows place)) found =
    given ∙ (λ i. map (λ place. are (pairs_of rows place) i) found) in
    let fit : SpotsFit schema rows = spots-fit schema rows all in
    sorted-map (pairs_of rows) (place_order order) (λ a b. order_by order (here_for schema related a) (here_for schema related b))
    (λ place. cells_in place ≡ named_keys schema order (pairs_of rows place))
    (λ a b ea eb. ap₂ (ranked_by order) ea eb ∙ order-agree schema related order (pairs_of rows a) (pairs_of rows b)
    (pairs-fit schema rows fit a.group.now) (pairs-fit schema rows fit b.group.now))
    found (each-of cells_in (λ place. named_keys schema order (pairs_of rows place)) found keys)

-- ---- groups

placed-tied : {X : Type 0} (x : X) (ys : List X) → placed_by (λ a b. Equal) x ys ≡ x ∷ ys
placed-tied x [] = refl
placed-tied x (y ∷ ys) = refl

sorted-tied : {X : Type 0} (xs : List X) → sorted_by (λ a b. Equal) xs ≡ xs
sorted-tied [] = refl
sorted-tied (x ∷ xs) = ap (placed_by (λ a b. Equal) x) (sorted-tied xs) ∙ placed-tied x xs

-- without columns all are in one group
one-named : (schema : Shape) (rows : List Row) (cs : List Col) (spots all : List Spot) → length cs ≡ 0 → spots ≡ sorted_by (named_order schema rows cs) all
    → pairs_at rows spots ∷ [] ≡ grouped_pairs schema cs (pairs_at rows all)
one-named schema rows [] spots all none is = ap (λ l. pairs_at rows l ∷ []) (is ∙ sorted-tied all)
one-named schema rows (c ∷ cs) spots all none is = absurd (omega (arith, none))

pub one-group : (schema : Shape) (rows : List Row) (cs : List Col) (found : List Lookup) (spots all : List Spot) → AreLookups schema cs found → length cs ≡ 0
    → spots ≡ sorted_by (spot_order rows found) all → pairs_at rows spots ∷ [] ≡ grouped_pairs schema cs (pairs_at rows all)
one-group schema rows cs found spots all are none is =
    one-named schema rows cs spots all none (is ∙ ap (λ order. sorted_by order all) (order-found schema rows cs found are))

-- with columns they are the runs
runs-named : (schema : Shape) (rows : List Row) (cs : List Col) (spots all : List Spot) (groups : List (List Spot)) → All (Fits schema) rows → 0 < length cs
    → spots ≡ sorted_by (named_order schema rows cs) all → groups ≡ map run_items (cut (same_by (named_order schema rows cs)) spots)
    → map (pairs_at rows) groups ≡ grouped_pairs schema cs (pairs_at rows all)
runs-named schema rows [] spots all groups fit some is are = absurd (omega (arith, some))
runs-named schema rows (c ∷ cs) spots all groups fit some is are =
    ap (map (pairs_at rows)) (are ∙ ap (λ l. map run_items (cut (same_by (named_order schema rows (c ∷ cs))) l)) is)
    ∙ map-through (pairs_at rows) run_items (cut (same_by (named_order schema rows (c ∷ cs))) (sorted_by (named_order schema rows (c ∷ cs)) all))
    ∙ groups-are schema rows (c ∷ cs) (spots-fit schema rows fit) all

pub run-groups : (schema : Shape) (rows : List Row) (cs : List Col) (found : List Lookup) (spots all : List Spot) (groups : List (List Spot)) → AreLookups schema cs found
    → All (Fits schema) rows → 0 < length cs → spots ≡ sorted_by (spot_order rows found) all → groups ≡ map run_items (cut (has_same_key rows found) spots)
    → map (pairs_at rows) groups ≡ grouped_pairs schema cs (pairs_at rows all)
run-groups schema rows cs found spots all groups are fit some is cuts =
    let same : spot_order rows found ≡ named_order schema rows cs = order-found schema rows cs found are in
    runs-named schema rows cs spots all groups fit some (is ∙ ap (λ order. sorted_by order all) same)
    (cuts ∙ ap (λ order. map run_items (cut (same_by order) spots)) same)

-- ---- the places of an answer

pub held-places : {A : Type 0} (now : A → List Spot) (rows : List Row) (q : List Pair → Bool) (found groups : List A) (all : List (List Pair))
    → map now found ≡ filter (λ group. q (pairs_at rows group)) (map now groups) → map (λ g. pairs_at rows (now g)) groups ≡ all
    → map (λ g. pairs_at rows (now g)) found ≡ filter q all
held-places now rows q found groups all are is =
    sym (map-through (pairs_at rows) now found) ∙ ap (map (pairs_at rows)) are ∙ sym (filter-map q (pairs_at rows) (map now groups))
    ∙ ap (filter q) (map-through (pairs_at rows) now groups ∙ is)

pub alone-places : {A : Type 0} (now : A → List Spot) (rows : List Row) (found : List A) (spots : List Spot)
    → map now found ≡ map (λ spot. spot ∷ []) spots → map (λ g. pairs_at rows (now g)) found ≡ map (λ pair. pair ∷ []) (pairs_at rows spots)
alone-places now rows found spots are =
    sym (map-through (pairs_at rows) now found) ∙ ap (map (pairs_at rows)) are ∙ map-through (pairs_at rows) (λ spot. spot ∷ []) spots
    ∙ sym (map-through (λ pair. pair ∷ []) (pair_at rows) spots)

pub pairs-placed : {A : Type 0} (now : A → List Spot) (rows : List Row) (found : List Place) (groups : List A)
    → map (λ place. place.group.now) found ≡ map now groups → map (pairs_of rows) found ≡ map (λ g. pairs_at rows (now g)) groups
pairs-placed now rows found groups are =
    sym (map-through (pairs_at rows) (λ (place : Place). place.group.now) found) ∙ ap (map (pairs_at rows)) are ∙ map-through (pairs_at rows) now groups

pub if-true : {X : Type 0} (b : Bool) (x y : X) → b ≡ true → (if b then x else y) ≡ x
if-true true x y e = refl
if-true false x y e = absurd (true≢false (sym e))

pub if-false : {X : Type 0} (b : Bool) (x y : X) → b ≡ false → (if b then x else y) ≡ y
if-false true x y e = absurd (true≢false e)
if-false false x y e = refl

pub is-zero : (n : ℕ) → true ≡ (n == 0) → n ≡ 0
is-zero n e = eqb-true n 0 (sym e)

pub limited-map : {X Y : Type 0} (f : X → Y) (limit : Option ℕ) (xs : List X) → map f (limited limit xs) ≡ limited limit (map f xs)
limited-map f None xs = refl
limited-map f (Some n) xs = take-map f n xs where
  take-map : {X Y : Type 0} (f : X → Y) (n : ℕ) (xs : List X) → map f (take n xs) ≡ take n (map f xs)
  take-map f zero [] = refl
  take-map f zero (x ∷ xs) = refl
  take-map f (suc n) [] = refl
  take-map f (suc n) (x ∷ xs) = ap (λ l. f x ∷ l) (take-map f n xs)
