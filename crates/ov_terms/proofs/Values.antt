-- The values of a column in a group, from a place on.
use Rattle.std.proofs.Common.{◌≡◌, ◌<◌, ◌+◌, ◌∷◌, ℕ, List, Bool, true, false, true≢false, suc, ◌∙◌, ap, refl, sym, arith, add-one, length, drop, get_or, drop-cons}
use Rattle.std.specs.Prelude.{ℤ, if◌then◌else◌, not}
use Rattle.ov_value.specs.declared.value.Value.{Value}
use Rattle.ov_value.specs.declared.value.Value.TheVariants as value
use Rattle.ov_model.specs.Book.{Row}
use Rattle.ov_model.specs.Answers.{cell_order, first_by, greatest_from, is_below, is_null_cell, is_present, least_from, plus, sum_from, value_order}
use Rattle.ov_model.specs.declared.answer.Cell.{Cell}
use Rattle.ov_model.specs.declared.answer.Cell.TheVariants as cell
use Rattle.ov_terms.specs.Finding.{present_at, value_at}
use Rattle.ov_terms.specs.declared.lookup.Lookup.{Lookup}
use Rattle.ov_terms.specs.declared.spot.Spot.{Spot}
use Rattle.ov_terms.specs.Best.{better}
use Rattle.ov_terms.specs.Summing.{plus_cell}
use Rattle.ov_terms.specs.Standing.{pair_at, pairs_at}

abbrev pub onto : Value → List Value → List Value
onto v vs = if is_present v then v ∷ vs else vs

abbrev pub values : List Row → Lookup → List Spot → List Value
values rows found group = present_at (pairs_at rows group) found

-- the value at a place, in front of those behind it
pub values-more : (rows : List Row) (found : Lookup) (group : List Spot) (i : ℕ) (d : Spot) → i < length group
    → values rows found (drop i group) ≡ onto (value_at found (pair_at rows (get_or group i d))) (values rows found (drop (i + 1) group))
values-more rows found group i d lt =
    let here : drop i group ≡ get_or group i d ∷ drop (i + 1) group = rw (add-one i) (drop-cons group i d lt) in
    ap (values rows found) here

pub null-absent : (v : Value) → is_null_cell (cell.Value v) ≡ not (is_present v)
null-absent (value.Int n) = refl
null-absent (value.Text text) = refl
null-absent (value.Flag flag) = refl
null-absent value.Null = refl

-- a value that isn't an int leaves a sum, and so does one that isn't there
pub sum-onto : (n : ℤ) (v : Value) (vs : List Value) → sum_from n (onto v vs) ≡ sum_from (plus n v) vs
sum-onto n (value.Int m) vs = refl
sum-onto n (value.Text text) vs = refl
sum-onto n (value.Flag flag) vs = refl
sum-onto n value.Null vs = refl

-- one value more of a sum
pub sum-more : (rows : List Row) (found : Lookup) (group : List Spot) (i : ℕ) (d : Spot) (n m all : ℤ) (seen : Cell) → i < length group
    → seen ≡ cell.Value (value_at found (pair_at rows (get_or group i d))) → m ≡ plus_cell n seen → all ≡ sum_from n (values rows found (drop i group))
    → all ≡ sum_from m (values rows found (drop (i + 1) group))
sum-more rows found group i d n m all seen lt is more before =
    let rest : List Value = values rows found (drop (i + 1) group) in
    before ∙ ap (sum_from n) (values-more rows found group i d lt) ∙ sum-onto n (value_at found (pair_at rows (get_or group i d))) rest
    ∙ ap (λ k. sum_from k rest) (sym (more ∙ ap (plus_cell n) is))

-- and of a count
length-onto : (v : Value) (vs : List Value) (null : Bool) → null ≡ is_null_cell (cell.Value v) → length (onto v vs) ≡ (if null then length vs else suc (length vs))
length-onto (value.Int n) vs null e = rw e refl
length-onto (value.Text text) vs null e = rw e refl
length-onto (value.Flag flag) vs null e = rw e refl
length-onto value.Null vs null e = rw e refl

pub length-more : (rows : List Row) (found : Lookup) (group : List Spot) (i : ℕ) (d : Spot) (seen : Cell) (null : Bool) → i < length group
    → seen ≡ cell.Value (value_at found (pair_at rows (get_or group i d))) → null ≡ is_null_cell seen
    → length (values rows found (drop i group))
    ≡ (if null then length (values rows found (drop (i + 1) group)) else suc (length (values rows found (drop (i + 1) group))))
length-more rows found group i d seen null lt is e =
    ap length (values-more rows found group i d lt)
    ∙ length-onto (value_at found (pair_at rows (get_or group i d))) (values rows found (drop (i + 1) group)) null (e ∙ ap is_null_cell is)

pub count-there : (null : Bool) (all count now behind rest : ℕ) → null ≡ false → now ≡ count + 1 → behind ≡ (if null then rest else suc rest) → all ≡ count + behind → all ≡ now + rest
count-there true all count now behind rest n is e before = absurd (true≢false n)
count-there false all count now behind rest n is e before = omega (arith, is, e, before)

pub count-none : (null : Bool) (all count now behind rest : ℕ) → null ≡ true → now ≡ count → behind ≡ (if null then rest else suc rest) → all ≡ count + behind → all ≡ now + rest
count-none true all count now behind rest n is e before = omega (arith, is, e, before)
count-none false all count now behind rest n is e before = absurd (true≢false (sym n))

-- the best so far, before these values
abbrev pub onward : (Value → List Value → Value) → Cell → List Value → Cell
onward pick cell.Nothing vs = first_by pick vs
onward pick (cell.Value v) vs = cell.Value (pick v vs)
onward pick (cell.Sum n) vs = cell.Nothing

-- nothing yet, or a value that isn't NULL
abbrev pub IsBest : Cell → Type 0
IsBest cell.Nothing = Unit {0}
IsBest (cell.Value v) = is_present v ≡ true
IsBest (cell.Sum n) = ⊥

-- of two values one is the best so far
chosen : (pick : Value → List Value → Value) (t : Bool) (v w : Value) (vs : List Value) → is_present v ≡ true → is_present w ≡ true
    → IsBest (if t then cell.Value v else cell.Value w)
    × (cell.Value (pick (if t then v else w) vs) ≡ onward pick (if t then cell.Value v else cell.Value w) vs)
chosen pick true v w vs p q = (p, refl)
chosen pick false v w vs p q = (q, refl)

least-present : (best : Cell) (v : Value) (vs : List Value) → is_present v ≡ true → IsBest best
    → IsBest (better cell_order best (cell.Value v))
    × (onward least_from best (v ∷ vs) ≡ onward least_from (better cell_order best (cell.Value v)) vs)
least-present cell.Nothing v vs p b = rw (null-absent v, p) (p, refl)
least-present (cell.Value w) v vs p b = rw (null-absent v, p, null-absent w, b) (chosen least_from (is_below (value_order v w)) v w vs p b)
least-present (cell.Sum n) v vs p b = absurd b

greatest-present : (best : Cell) (v : Value) (vs : List Value) → is_present v ≡ true → IsBest best
    → IsBest (better (λ x y. cell_order y x) best (cell.Value v))
    × (onward greatest_from best (v ∷ vs) ≡ onward greatest_from (better (λ x y. cell_order y x) best (cell.Value v)) vs)
greatest-present cell.Nothing v vs p b = rw (null-absent v, p) (p, refl)
greatest-present (cell.Value w) v vs p b = rw (null-absent v, p, null-absent w, b) (chosen greatest_from (is_below (value_order w v)) v w vs p b)
greatest-present (cell.Sum n) v vs p b = absurd b

-- one value more, or one that is NULL
pub least-more : (best : Cell) (v : Value) (vs : List Value) → IsBest best
    → IsBest (better cell_order best (cell.Value v))
    × (onward least_from best (onto v vs) ≡ onward least_from (better cell_order best (cell.Value v)) vs)
least-more best (value.Int n) vs b = least-present best (value.Int n) vs refl b
least-more best (value.Text t) vs b = least-present best (value.Text t) vs refl b
least-more best (value.Flag f) vs b = least-present best (value.Flag f) vs refl b
least-more best value.Null vs b = (b, refl)

pub greatest-more : (best : Cell) (v : Value) (vs : List Value) → IsBest best
    → IsBest (better (λ x y. cell_order y x) best (cell.Value v))
    × (onward greatest_from best (onto v vs) ≡ onward greatest_from (better (λ x y. cell_order y x) best (cell.Value v)) vs)
greatest-more best (value.Int n) vs b = greatest-present best (value.Int n) vs refl b
greatest-more best (value.Text t) vs b = greatest-present best (value.Text t) vs refl b
greatest-more best (value.Flag f) vs b = greatest-present best (value.Flag f) vs refl b
greatest-more best value.Null vs b = (b, refl)
