-- Lists, one element after another; and a record's row.
use Rattle.std.proofs.Common.{◌≡◌, ◌<◌, ◌≤◌, ◌+◌, ◌++◌, ◌∷◌, ◌∙◌, [], ℕ, List, ap, ap₂, arith, refl, subst, sym, add-one, length, map, take, take-suc, get_or}
use Rattle.std.proofs.lemmas.List.{map-append, take_all, get_or-map}
use Rattle.std.proofs.lemmas.List.Elements.{All-push}
use Rattle.std.specs.List.{All}
use Rattle.ov_fetch.specs.Scans.{row_at}
use Rattle.ov_model.specs.Answers.{row_cells, row_of}
use Rattle.ov_segment.specs.declared.numbered.Record.{Record}
use Rattle.ov_model.specs.Book.{Row}
use Rattle.ov_terms.specs.Standing.{pairs_at, row_in}
use Rattle.ov_terms.specs.declared.spot.Spot.{Spot}

-- one more
pub found-more : {X Y Z : Type 0} (f : X → Z) (g : Y → Z) (found : List X) (ys : List Y) (i : ℕ) (x : X) (y : Y) → i < length ys → y ≡ get_or ys i y → f x ≡ g y
    → map f found ≡ map g (take i ys) → map f (found ++ x ∷ []) ≡ map g (take (i + 1) ys)
found-more f g found ys i x y lt is same before =
    let here : take (i + 1) ys ≡ take i ys ++ y ∷ [] = rw (add-one i) (take-suc ys i y lt ∙ ap (λ z. take i ys ++ z ∷ []) (sym is)) in
    map-append f found (x ∷ []) ∙ ap₂ (λ l z. l ++ z ∷ []) before same ∙ sym (map-append g (take i ys) (y ∷ [])) ∙ ap (map g) (sym here)

-- all of them
pub found-all : {X Y Z : Type 0} (f : X → Z) (g : Y → Z) (found : List X) (ys : List Y) (i : ℕ) → length ys ≤ i → map f found ≡ map g (take i ys) → map f found ≡ map g ys
found-all f g found ys i end before = before ∙ ap (map g) (take_all i ys end)

-- what holds of each before, and of one more
pub all-more : {X : Type 0} (P : X → Type 0) (xs : List X) (i : ℕ) (x : X) → i < length xs → x ≡ get_or xs i x → P x → All P (take i xs) → All P (take (i + 1) xs)
all-more P xs i x lt is holds before =
    let here : take (i + 1) xs ≡ take i xs ++ x ∷ [] = rw (add-one i) (take-suc xs i x lt ∙ ap (λ z. take i xs ++ z ∷ []) (sym is)) in
    subst (All P) (sym here) (All-push P (take i xs) x before holds)

pub all-of : {X : Type 0} (P : X → Type 0) (xs : List X) (i : ℕ) → length xs ≤ i → All P (take i xs) → All P xs
all-of P xs i end before = subst (All P) (take_all i xs end) before

pub row-at : (records : List Record) (i : ℕ) (none : Record) → i < length records → (get_or records i none).row ≡ row_at records i
row-at records i none lt = sym (get_or-map (λ r. r.row) records i none [] lt)

pub first-row : (rows : List Row) (group : List Spot) (d : Spot) → 1 ≤ length group → row_cells (row_in rows (get_or group 0 d).place) ≡ row_of (pairs_at rows group)
first-row rows [] d some = absurd (omega (arith, some))
first-row rows (spot ∷ rest) d some = refl
