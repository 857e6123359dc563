-- The keys of ORDER BY, one after another.
use Rattle.std.proofs.Common.{◌≡◌, ◌≢◌, ◌<◌, ◌≤◌, ◌+◌, ◌∷◌, ◌∙◌, [], ℕ, zero, suc, List, ap, ap₂, refl, sym, add-one, length, map, drop, drop-cons, get_or, arith, Ordering, Less, Equal, Greater, true, false, not, true≢false, ◌==◌}
use Rattle.std.proofs.lemmas.List.{drop_all}
use Rattle.std.specs.Ordering.{ordering_index, ordering_then}
use Rattle.ov_model.specs.declared.answer.Cell.{Cell}
use Rattle.ov_model.specs.declared.query.Key.{Key}
use Rattle.ov_qrun.specs.Ranking.{first_cell, later_cells, ranked, ranked_by, turned_by}

later-drop : (cells : List Cell) (at : ℕ) → later_cells (drop at cells) ≡ drop (suc at) cells
later-drop [] zero = refl
later-drop [] (suc at) = refl
later-drop (c ∷ cells) zero = refl
later-drop (c ∷ cells) (suc at) = later-drop cells at

-- the next key, and those behind it
next-key : (order : List Key) (as_ bs : List Cell) (at : ℕ) (d : Key) → at < length order
    → ranked_by (drop at order) (drop at as_) (drop at bs)
    ≡ ordering_then (turned_by (get_or order at d).down (ranked (first_cell (drop at as_)) (first_cell (drop at bs))))
    (ranked_by (drop (at + 1) order) (drop (at + 1) as_) (drop (at + 1) bs))
next-key order as_ bs at d lt =
    let next : drop at order ≡ get_or order at d ∷ drop (at + 1) order = rw (add-one at) (drop-cons order at d lt) in
    ap (λ keys. ranked_by keys (drop at as_) (drop at bs)) next
    ∙ ap₂ (λ xs ys. ordering_then (turned_by (get_or order at d).down (ranked (first_cell (drop at as_)) (first_cell (drop at bs)))) (ranked_by (drop (at + 1) order) xs ys))
    (later-drop as_ at ∙ ap (λ n. drop n as_) (sym (add-one at))) (later-drop bs at ∙ ap (λ n. drop n bs) (sym (add-one at)))

then-other : (o p : Ordering) → o ≢ Equal → ordering_then o p ≡ o
then-other Less p off = refl
then-other Equal p off = absurd (off refl)
then-other Greater p off = refl

-- a key that tells two apart decides
pub decides : (order : List Key) (as_ bs : List Cell) (at : ℕ) (d : Key) (found all : Ordering) → at < length order
    → found ≡ turned_by (get_or order at d).down (ranked (first_cell (drop at as_)) (first_cell (drop at bs)))
    → all ≡ ranked_by (drop at order) (drop at as_) (drop at bs) → found ≢ Equal → found ≡ all
decides order as_ bs at d found all lt is before off =
    let rest = ranked_by (drop (at + 1) order) (drop (at + 1) as_) (drop (at + 1) bs) in
    sym (before ∙ next-key order as_ bs at d lt ∙ ap (λ o. ordering_then o rest) (sym is) ∙ then-other found rest off)

-- else the keys behind it do
pub goes-on : (order : List Key) (as_ bs : List Cell) (at : ℕ) (d : Key) (found all : Ordering) → at < length order
    → found ≡ turned_by (get_or order at d).down (ranked (first_cell (drop at as_)) (first_cell (drop at bs)))
    → all ≡ ranked_by (drop at order) (drop at as_) (drop at bs) → found ≡ Equal
    → all ≡ ranked_by (drop (at + 1) order) (drop (at + 1) as_) (drop (at + 1) bs)
goes-on order as_ bs at d found all lt is before equal =
    let rest = ranked_by (drop (at + 1) order) (drop (at + 1) as_) (drop (at + 1) bs) in
    before ∙ next-key order as_ bs at d lt ∙ ap (λ o. ordering_then o rest) (sym is ∙ equal)

pub all-tied : (order : List Key) (as_ bs : List Cell) (at : ℕ) (all : Ordering) → length order ≤ at
    → all ≡ ranked_by (drop at order) (drop at as_) (drop at bs) → Equal ≡ all
all-tied order as_ bs at all end before =
    sym (before ∙ ap (λ keys. ranked_by keys (drop at as_) (drop at bs)) (drop_all at order end))

-- the cell at a position
pub cell-there : {A : Type 0} (f : A → Cell) (xs : List A) (at : ℕ) (d : A) → at < length xs → f (get_or xs at d) ≡ first_cell (drop at (map f xs))
cell-there f [] at d lt = absurd (omega (arith, lt))
cell-there f (x ∷ xs) zero d lt = refl
cell-there f (x ∷ xs) (suc at) d lt = cell-there f xs at d (omega (arith, lt))

pub found-by : (order : List Key) (as_ bs : List Cell) (at : ℕ) (key : Key) (x y : Cell) (found : Ordering) → found ≡ turned_by key.down (ranked x y)
    → x ≡ first_cell (drop at as_) → y ≡ first_cell (drop at bs) → key ≡ get_or order at key
    → found ≡ turned_by (get_or order at key).down (ranked (first_cell (drop at as_)) (first_cell (drop at bs)))
found-by order as_ bs at key x y found is ex ey there =
    is ∙ ap₂ (λ a b. turned_by key.down (ranked a b)) ex ey
    ∙ ap (λ (k : Key). turned_by k.down (ranked (first_cell (drop at as_)) (first_cell (drop at bs)))) there

-- what a test for equality says
pub not-tied : (o : Ordering) → true ≡ not (ordering_index o == 1) → o ≢ Equal
not-tied Less e = λ equal. cc
not-tied Equal e = λ equal. true≢false e
not-tied Greater e = λ equal. cc

pub is-tied : (o : Ordering) → false ≡ not (ordering_index o == 1) → o ≡ Equal
is-tied Less e = absurd (true≢false (sym e))
is-tied Equal e = refl
is-tied Greater e = absurd (true≢false (sym e))
