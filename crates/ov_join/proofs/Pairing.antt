-- The pairs that were found are those that match.
use Rattle.std.proofs.Common.{◌≡◌, ◌<◌, ◌≤◌, ◌+◌, ◌∷◌, ◌++◌, ◌∙◌, ◌&&◌, ◌||◌, [], ℕ, ℤ, zero, suc, List, Bool, true, false, not, cond, if◌then◌else◌, ap, ap₂, refl, sym, true≢false, length, map, filter, get_or, arith, is_eq, Ordering, Less, Equal, Greater}
use Rattle.std.proofs.lemmas.List.{length-append, length-map, map-append}
use Rattle.std.specs.Prelude.{Option, Some, None}
use Rattle.std.specs.List.{AllByRecursion, flat_map, list_all, list_any}
use Rattle.std.specs.Ordering.{int_cmp, nat_cmp, bool_cmp, on, ordering_reverse, ordering_then}
use Rattle.std.specs.Cmp.Lexicographic.{slice_cmp}
use Rattle.std.proofs.lemmas.Cmp.{int_cmp_total, nat_list_cmp_total, on_total}
use Rattle.std.specs.Cmp.{IsTotalOrder}
use Rattle.ov_value.specs.Shapes.{Shape}
use Rattle.ov_value.specs.declared.value.Value.{Value}
use Rattle.ov_value.specs.declared.value.Value.TheVariants as value
use Rattle.ov_model.specs.Answers.{Pair, cell_order, is_above, is_null_cell, sorted_by, value_in}
use Rattle.ov_model.specs.Book.{Row}
use Rattle.ov_model.specs.Joins.{all_pairs, beside, is_match, is_on, left_name, matches, right_name, side_by_side}
use Rattle.ov_model.specs.declared.answer.Cell.{Cell}
use Rattle.ov_model.specs.declared.answer.Cell.TheVariants as cell
use Rattle.ov_model.specs.declared.query.Col.TheVariants as col
use Rattle.ov_model.specs.declared.query.JoinQuery.{JoinQuery}
use Rattle.ov_terms.specs.Finding.{in_version, value_at}
use Rattle.ov_terms.specs.Standing.{pair_at, row_in, spots_in}
use Rattle.ov_terms.specs.declared.lookup.Lookup.{Lookup}
use Rattle.ov_terms.specs.declared.spot.Spot.{Spot}
use Rattle.ov_qrun.specs.Keys.{key_in, spot_order}
use Rattle.ov_qrun.specs.Ranking.{ranked, ranked_lists}
use Rattle.ov_qrun.proofs.CellKinds.{lists-total}
use Rattle.ov_qrun.proofs.Meaning.{filter-map, map-through}
use Rattle.ov_qrun.proofs.Sorting.{sorted-kept}
use Rattle.ov_join.specs.Meeting.{left_key, right_key}
use Rattle.ov_join.specs.Partnering.{matches_by, paired, partners_in, row_key, row_spot}
use Rattle.ov_join.specs.declared.side.Side.{Side}
use Rattle.ov_terms.specs.declared.matches.Match.{Match}
use Rattle.ov_join.proofs.Sides.{left-value, right-value}

-- ---- one comparison of ON

reverse-eq : (o : Ordering) → is_eq (ordering_reverse o) ≡ is_eq o
reverse-eq Less = refl
reverse-eq Equal = refl
reverse-eq Greater = refl

turned-eq : (m n : ℤ) → is_eq (int_cmp m n) ≡ is_eq (int_cmp n m)
turned-eq m n = ap is_eq (int_cmp_total.antisymm m n) ∙ reverse-eq (int_cmp n m)

texts-eq : (s t : List ℕ) → is_eq (slice_cmp nat_cmp s t) ≡ is_eq (slice_cmp nat_cmp t s)
texts-eq s t = ap is_eq (nat_list_cmp_total.antisymm s t) ∙ reverse-eq (slice_cmp nat_cmp t s)

-- it is true where no value is NULL and they rank the same
one-match : (v w : Value) → is_match (cell_order (cell.Value v) (cell.Value w)) ≡ (not (is_null_cell (cell.Value v)) && is_eq (ranked (cell.Value w) (cell.Value v)))
one-match value.Null value.Null = refl
one-match value.Null (value.Flag b) = refl
one-match value.Null (value.Int n) = refl
one-match value.Null (value.Text t) = refl
one-match (value.Flag a) value.Null = refl
one-match (value.Flag true) (value.Flag true) = refl
one-match (value.Flag true) (value.Flag false) = refl
one-match (value.Flag false) (value.Flag true) = refl
one-match (value.Flag false) (value.Flag false) = refl
one-match (value.Flag a) (value.Int n) = refl
one-match (value.Flag a) (value.Text t) = refl
one-match (value.Int m) value.Null = refl
one-match (value.Int m) (value.Flag b) = refl
one-match (value.Int m) (value.Int n) = turned-eq m n
one-match (value.Int m) (value.Text t) = refl
one-match (value.Text s) value.Null = refl
one-match (value.Text s) (value.Flag b) = refl
one-match (value.Text s) (value.Int n) = refl
one-match (value.Text s) (value.Text t) = texts-eq s t

-- ---- all comparisons of ON

then-eq : (o p : Ordering) → is_eq (ordering_then o p) ≡ (is_eq o && is_eq p)
then-eq Less p = refl
then-eq Equal p = refl
then-eq Greater p = refl

both-and : (n e m f : Bool) → ((not n && e) && (not m && f)) ≡ (not (n || m) && (e && f))
both-and true e m f = refl
both-and false true m f = refl
both-and false false true f = refl
both-and false false false f = refl

abbrev are_on : List Cell → List Cell → Bool
are_on ls rs = not (list_any is_null_cell ls) && is_eq (ranked_lists rs ls)

all-match : (left right : Shape) (l r : Row) (ons : List (List ℕ × List ℕ)) → length l ≡ length left.columns → length r ≡ length right.columns
    → list_all (is_on (side_by_side left right) (beside l r)) ons ≡ are_on (left_key left ons (in_version 0 l)) (right_key right ons (in_version 0 r))
all-match left right l r [] el er = refl
all-match left right l r (on ∷ ons) el er =
    let v : Value = value_in left (in_version 0 l) (col.Name on.0) in
    let w : Value = value_in right (in_version 0 r) (col.Name on.1) in
    let ls : List Cell = left_key left ons (in_version 0 l) in
    let rs : List Cell = right_key right ons (in_version 0 r) in
    ap₂ (λ x y. is_match (cell_order (cell.Value x) (cell.Value y)) && list_all (is_on (side_by_side left right) (beside l r)) ons)
    (left-value left right l r on.0 el er) (right-value left right l r on.1 el er)
    ∙ ap₂ (λ b c. b && c) (one-match v w) (all-match left right l r ons el er)
    ∙ both-and (is_null_cell (cell.Value v)) (is_eq (ranked (cell.Value w) (cell.Value v))) (list_any is_null_cell ls) (is_eq (ranked_lists rs ls))
    ∙ ap (λ b. not (is_null_cell (cell.Value v) || list_any is_null_cell ls) && b) (sym (then-eq (ranked (cell.Value w) (cell.Value v)) (ranked_lists rs ls)))

-- ---- the partners of a left row

null-map : (found : List Lookup) (pair : Pair) → list_any (λ one. is_null_cell (cell.Value (value_at one pair))) found ≡ list_any is_null_cell (key_in found pair)
null-map [] pair = refl
null-map (one ∷ found) pair = ap (λ b. is_null_cell (cell.Value (value_at one pair)) || b) (null-map found pair)

agree : (p q : Spot → Bool) (P : Spot → Type 0) → ((s : Spot) → P s → p s ≡ q s) → (ss : List Spot) → AllByRecursion P ss → filter p ss ≡ filter q ss
agree p q P same [] all = refl
agree p q P same (s ∷ ss) all = ap₂ (λ b l. cond b (s ∷ l) l) (same s all.0) (agree p q P same ss all.1)

none-kept : (ss : List Spot) → filter (λ s. false) ss ≡ []
none-kept [] = refl
none-kept (s ∷ ss) = none-kept ss

unless-null : (null : Bool) (e : Spot → Bool) (ss : List Spot) → filter (λ s. not null && e s) ss ≡ (if null then [] else filter e ss)
unless-null true e ss = none-kept ss
unless-null false e ss = refl

is-equal : (o : Ordering) → is_eq o ≡ true → o ≡ Equal
is-equal Less e = absurd (true≢false (sym e))
is-equal Equal e = refl
is-equal Greater e = absurd (true≢false (sym e))

above-equal : (o : Ordering) → o ≡ Equal → is_above o ≡ true → ⊥
above-equal o e above = true≢false (sym above ∙ ap is_above e)

-- those of one key aren't put past one another
unlike : (key : Spot → List Cell) (k : List Cell) (x y : Spot) → is_eq (ranked_lists (key x) k) ≡ true → is_eq (ranked_lists (key y) k) ≡ true
    → is_above (ranked_lists (key x) (key y)) ≡ true → ⊥
unlike key k x y ex ey above =
    above-equal (ranked_lists (key x) (key y))
    (lists-total.congr (key x) k (key y) (is-equal (ranked_lists (key x) k) ex) ∙ lists-total.antisymm k (key y)
    ∙ ap ordering_reverse (is-equal (ranked_lists (key y) k) ey))
    above

pub partners-are : (left right : Side) (l r : Shape) (ons : List (List ℕ × List ℕ)) (spots sorted : List Spot) (place : ℕ)
    → ((pair : Pair) → key_in left.cols.items pair ≡ left_key l ons pair) → ((pair : Pair) → key_in right.cols.items pair ≡ right_key r ons pair)
    → sorted ≡ sorted_by (spot_order right.table right.cols.items) spots → length (row_in left.table place) ≡ length l.columns
    → AllByRecursion (λ s. length (row_in right.table s.place) ≡ length r.columns) spots
    → filter (λ s. list_all (is_on (side_by_side l r) (beside (row_in left.table place) (row_in right.table s.place))) ons) spots
    ≡ partners_in left right sorted place
partners-are left right l r ons spots sorted place lcols rcols is wide all =
    let row : Pair = pair_at left.table (row_spot place) in
    let k : List Cell = key_in left.cols.items row in
    let null : Bool = list_any is_null_cell k in
    let e : Spot → Bool = λ s. is_eq (ranked_lists (row_key right s) k) in
    agree (λ s. list_all (is_on (side_by_side l r) (beside (row_in left.table place) (row_in right.table s.place))) ons) (λ s. not null && e s)
    (λ s. length (row_in right.table s.place) ≡ length r.columns)
    (λ s w. all-match l r (row_in left.table place) (row_in right.table s.place) ons wide w
    ∙ ap₂ are_on (sym (lcols row)) (sym (rcols (pair_at right.table s)))) spots all
    ∙ unless-null null e spots
    ∙ ap₂ (λ b ss. if b then [] else ss) (sym (null-map left.cols.items row))
    (sym (ap (filter e) is ∙ sorted-kept (spot_order right.table right.cols.items) e (unlike (row_key right) k) spots))

-- ---- all pairs

filter-append : (p : Pair → Bool) (xs ys : List Pair) → filter p (xs ++ ys) ≡ filter p xs ++ filter p ys
filter-append p [] ys = refl
filter-append p (x ∷ xs) ys = ap (λ l. cond (p x) (x ∷ l) l) (filter-append p xs ys) ∙ in-front (p x) where
  in-front : (b : Bool) → cond b (x ∷ (filter p xs ++ filter p ys)) (filter p xs ++ filter p ys) ≡ cond b (x ∷ filter p xs) (filter p xs) ++ filter p ys
  in-front true = refl
  in-front false = refl

-- a left row beside each of these right ones
abbrev pub beside_each : List Row → List Row → (ℕ → List Spot) → ℕ → List Pair
beside_each ls rs partners place = map (λ s. beside (row_in ls place) (row_in rs s.place)) (partners place)

kept-pairs : (q : Pair → Bool) (ls rs : List Row) (spots : List Spot) (partners : ℕ → List Spot) (places : List ℕ)
    → AllByRecursion (λ place. filter (λ s. q (beside (row_in ls place) (row_in rs s.place))) spots ≡ partners place) places
    → filter q (all_pairs (map (row_in ls) places) (map (λ s. row_in rs s.place) spots)) ≡ flat_map (beside_each ls rs partners) places
kept-pairs q ls rs spots partners [] all = refl
kept-pairs q ls rs spots partners (place ∷ places) all =
    let beside_row : Spot → Pair = λ s. beside (row_in ls place) (row_in rs s.place) in
    filter-append q (map (beside (row_in ls place)) (map (λ s. row_in rs s.place) spots)) (all_pairs (map (row_in ls) places) (map (λ s. row_in rs s.place) spots))
    ∙ ap₂ (λ xs ys. xs ++ ys)
    (ap (filter q) (map-through (beside (row_in ls place)) (λ (s : Spot). row_in rs s.place) spots) ∙ filter-map q beside_row spots ∙ ap (map beside_row) all.0)
    (kept-pairs q ls rs spots partners places all.1)

abbrev pub row_of_match : List Row → List Row → Match → Row
row_of_match ls rs m = row_in ls m.left ++ row_in rs m.right

pub made-pairs : (ls rs : List Row) (partners : ℕ → List Spot) (places : List ℕ)
    → map (in_version 0) (map (row_of_match ls rs) (flat_map matches_by (map (λ place. (place, partners place)) places))) ≡ flat_map (beside_each ls rs partners) places
made-pairs ls rs partners [] = refl
made-pairs ls rs partners (place ∷ places) =
    let here : List Match = map (paired place) (partners place) in
    let rest : List Match = flat_map matches_by (map (λ place. (place, partners place)) places) in
    ap (map (in_version 0)) (map-append (row_of_match ls rs) here rest) ∙ map-append (in_version 0) (map (row_of_match ls rs) here) (map (row_of_match ls rs) rest)
    ∙ ap₂ (λ xs ys. xs ++ ys)
    (ap (map (in_version 0)) (map-through (row_of_match ls rs) (paired place) (partners place)) ∙ map-through (in_version 0) (λ s. row_of_match ls rs (paired place s)) (partners place))
    (made-pairs ls rs partners places)

spots-rows : (rs : List Row) (places : List ℕ) → map (row_in rs) places ≡ map (λ s. row_in rs s.place) (spots_in 0 places)
spots-rows rs [] = refl
spots-rows rs (place ∷ places) = ap (λ l. row_in rs place ∷ l) (spots-rows rs places)

each-place : (P Q : ℕ → Type 0) → ((place : ℕ) → P place → Q place) → (places : List ℕ) → AllByRecursion P places → AllByRecursion Q places
each-place P Q same [] all = tt
each-place P Q same (place ∷ places) all = (same place all.0, each-place P Q same places all.1)

-- the pairs that match are each left row beside its partners
pub pairs-are : (left right : Side) (join : JoinQuery) (l r : Shape) (lefts rights : List ℕ) (sorted : List Spot)
    → ((pair : Pair) → key_in left.cols.items pair ≡ left_key l join.on pair) → ((pair : Pair) → key_in right.cols.items pair ≡ right_key r join.on pair)
    → sorted ≡ sorted_by (spot_order right.table right.cols.items) (spots_in 0 rights)
    → AllByRecursion (λ place. length (row_in left.table place) ≡ length l.columns) lefts
    → AllByRecursion (λ s. length (row_in right.table s.place) ≡ length r.columns) (spots_in 0 rights)
    → matches join l r (map (row_in left.table) lefts) (map (row_in right.table) rights) ≡ flat_map (beside_each left.table right.table (partners_in left right sorted)) lefts
pairs-are left right join l r lefts rights sorted lcols rcols is lwide rwide =
    let q : Pair → Bool = λ pair. list_all (is_on (side_by_side l r) pair) join.on in
    ap (λ rows. filter q (all_pairs (map (row_in left.table) lefts) rows)) (spots-rows right.table rights)
    ∙ kept-pairs q left.table right.table (spots_in 0 rights) (partners_in left right sorted) lefts
    (each-place (λ place. length (row_in left.table place) ≡ length l.columns)
    (λ place. filter (λ s. q (beside (row_in left.table place) (row_in right.table s.place))) (spots_in 0 rights) ≡ partners_in left right sorted place)
    (λ place wide. partners-are left right l r join.on (spots_in 0 rights) sorted place lcols rcols is wide rwide) lefts lwide)

pub count-pairs : (ls rs : List Row) (partners : ℕ → List Spot) (places : List ℕ) → length (flat_map (beside_each ls rs partners) places) ≡ length (flat_map partners places)
count-pairs ls rs partners [] = refl
count-pairs ls rs partners (place ∷ places) =
    length-append (beside_each ls rs partners place) (flat_map (beside_each ls rs partners) places)
    ∙ ap₂ (λ n m. n + m) (length-map (partners place) (λ (s : Spot). beside (row_in ls place) (row_in rs s.place))) (count-pairs ls rs partners places)
    ∙ sym (length-append (partners place) (flat_map partners places))
