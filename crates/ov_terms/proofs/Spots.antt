-- Spots, and the pairs that stand there.
use Rattle.std.proofs.Common.{◌≡◌, ◌<◌, ◌≤◌, ◌+◌, ◌++◌, ◌∷◌, ◌∙◌, [], ℕ, List, Bool, true, false, ap, ap₂, refl, sym, suc, add-one, length, map, drop, drop-cons, get_or, append_assoc, append-nil, cond}
use Rattle.std.proofs.Math.Seq.{append_snoc}
use Rattle.std.proofs.lemmas.List.{drop_all, map-append}
use Rattle.std.specs.Prelude.{filter, if◌then◌else◌, Option}
use Rattle.ov_model.specs.Book.{Row}
use Rattle.ov_model.specs.Answers.{Pair}
use Rattle.ov_terms.specs.Finding.{in_version, is_taken, TakesNone, TakesSame}
use Rattle.ov_terms.specs.declared.found_cond.FoundCond.{FoundCond}
use Rattle.ov_terms.specs.declared.spot.Spot.{Spot}
use Rattle.ov_terms.specs.Standing.{pair_at, pairs_among, pairs_at, row_in, spots_in}

-- one spot more, taken or not
kept-step : (p : Pair → Bool) (rows : List Row) (kept : List Spot) (x : Spot) (rest : List Spot) (taken : Bool) → taken ≡ p (pair_at rows x)
    → pairs_at rows kept ++ filter p (pairs_at rows (x ∷ rest))
    ≡ pairs_at rows (kept ++ (if taken then x ∷ [] else [])) ++ filter p (pairs_at rows rest)
kept-step p rows kept x rest true e =
    rw (sym e, map-append (pair_at rows) kept (x ∷ [])) (sym (append_snoc (pairs_at rows kept) (pair_at rows x) (filter p (pairs_at rows rest))))
kept-step p rows kept x rest false e = rw (sym e, append-nil kept) refl

pub kept-more : (p : Pair → Bool) (rows : List Row) (kept : List Spot) (vid : ℕ) (places : List ℕ) (i d : ℕ) (taken : Bool) (all : List Pair) → i < length places
    → taken ≡ p (pair_at rows (record { vid = vid; place = get_or places i d }))
    → all ≡ pairs_at rows kept ++ filter p (pairs_at rows (spots_in vid (drop i places)))
    → all ≡ pairs_at rows (kept ++ (if taken then record { vid = vid; place = get_or places i d } ∷ [] else []))
    ++ filter p (pairs_at rows (spots_in vid (drop (i + 1) places)))
kept-more p rows kept vid places i d taken all lt e h =
    let here : drop i places ≡ get_or places i d ∷ drop (i + 1) places = rw (add-one i) (drop-cons places i d lt) in
    h ∙ ap (λ l. pairs_at rows kept ++ filter p (pairs_at rows (spots_in vid l))) here
    ∙ kept-step p rows kept (record { vid = vid; place = get_or places i d }) (spots_in vid (drop (i + 1) places)) taken e

pub kept-all : (p : Pair → Bool) (rows : List Row) (kept : List Spot) (vid : ℕ) (places : List ℕ) (i : ℕ) (all : List Pair) → length places ≤ i
    → all ≡ pairs_at rows kept ++ filter p (pairs_at rows (spots_in vid (drop i places))) → pairs_at rows kept ≡ all
kept-all p rows kept vid places i all end h =
    sym (h ∙ ap (λ l. pairs_at rows kept ++ filter p (pairs_at rows (spots_in vid l))) (drop_all i places end) ∙ append-nil (pairs_at rows kept))

-- one row more, taken or not
row-step : (p : Pair → Bool) (rows : List Row) (kept : List Spot) (x : Spot) (rest : List Pair) (taken : Bool) → taken ≡ p (pair_at rows x)
    → pairs_at rows kept ++ filter p (pair_at rows x ∷ rest) ≡ pairs_at rows (kept ++ (if taken then x ∷ [] else [])) ++ filter p rest
row-step p rows kept x rest true e =
    rw (sym e, map-append (pair_at rows) kept (x ∷ [])) (sym (append_snoc (pairs_at rows kept) (pair_at rows x) (filter p rest)))
row-step p rows kept x rest false e = rw (sym e, append-nil kept) refl

pub row-more : (p : Pair → Bool) (rows : List Row) (kept : List Spot) (i : ℕ) (taken : Bool) (all : List Pair) → i < length rows
    → taken ≡ p (pair_at rows (record { vid = 0; place = i })) → all ≡ pairs_at rows kept ++ filter p (map (in_version 0) (drop i rows))
    → all ≡ pairs_at rows (kept ++ (if taken then record { vid = 0; place = i } ∷ [] else [])) ++ filter p (map (in_version 0) (drop (i + 1) rows))
row-more p rows kept i taken all lt e h =
    let here : drop i rows ≡ get_or rows i [] ∷ drop (i + 1) rows = rw (add-one i) (drop-cons rows i [] lt) in
    h ∙ ap (λ l. pairs_at rows kept ++ filter p (map (in_version 0) l)) here
    ∙ row-step p rows kept (record { vid = 0; place = i }) (map (in_version 0) (drop (i + 1) rows)) taken e

pub rows-all : (p : Pair → Bool) (rows : List Row) (kept : List Spot) (i : ℕ) (all : List Pair) → length rows ≤ i
    → all ≡ pairs_at rows kept ++ filter p (map (in_version 0) (drop i rows)) → pairs_at rows kept ≡ all
rows-all p rows kept i all end h =
    sym (h ∙ ap (λ l. pairs_at rows kept ++ filter p (map (in_version 0) l)) (drop_all i rows end) ∙ append-nil (pairs_at rows kept))

-- the pairs of a version's spots are its rows
pub pairs-spots : (rows : List Row) (vid : ℕ) (places : List ℕ)
    → pairs_at rows (spots_in vid places) ≡ map (λ row. record { vid = vid; row = row }) (map (row_in rows) places)
pairs-spots rows vid [] = refl
pairs-spots rows vid (place ∷ places) = ap (λ l. pair_at rows (record { vid = vid; place = place }) ∷ l) (pairs-spots rows vid places)

filter-append : (p : Pair → Bool) (xs ys : List Pair) → filter p (xs ++ ys) ≡ filter p xs ++ filter p ys
filter-append p [] ys = refl
filter-append p (x ∷ xs) ys = ap (λ l. cond (p x) (x ∷ l) l) (filter-append p xs ys) ∙ in-front (p x) where
  in-front : (b : Bool) → cond b (x ∷ (filter p xs ++ filter p ys)) (filter p xs ++ filter p ys) ≡ cond b (x ∷ filter p xs) (filter p xs) ++ filter p ys
  in-front true = refl
  in-front false = refl

-- one version more
pub version-more : (p : Pair → Bool) (rows : List Row) (vids : List ℕ) (picks : List (List ℕ)) (i vid d : ℕ) (pick : List ℕ) (before : List Spot) (now : List Pair) (all : List Pair)
    → i < length vids → i < length picks → vid ≡ get_or vids i d → pick ≡ get_or picks i pick
    → now ≡ pairs_at rows before ++ filter p (pairs_at rows (spots_in vid pick))
    → all ≡ pairs_at rows before ++ filter p (pairs_among rows (drop i vids) (drop i picks))
    → all ≡ now ++ filter p (pairs_among rows (drop (i + 1) vids) (drop (i + 1) picks))
version-more p rows vids picks i vid d pick before now all lv lp ev ep is h =
    let v : drop i vids ≡ vid ∷ drop (i + 1) vids = rw (add-one i) (drop-cons vids i d lv ∙ ap (λ x. x ∷ drop (suc i) vids) (sym ev)) in
    let q : drop i picks ≡ pick ∷ drop (i + 1) picks = rw (add-one i) (drop-cons picks i pick lp ∙ ap (λ x. x ∷ drop (suc i) picks) (sym ep)) in
    let rest : List Pair = pairs_among rows (drop (i + 1) vids) (drop (i + 1) picks) in
    let here : List Pair = pairs_at rows (spots_in vid pick) in
    h ∙ ap (λ l. pairs_at rows before ++ filter p (pairs_among rows l (drop i picks))) v
    ∙ ap (λ l. pairs_at rows before ++ filter p (pairs_among rows (vid ∷ drop (i + 1) vids) l)) q
    ∙ ap (λ l. pairs_at rows before ++ filter p (l ++ rest)) (sym (pairs-spots rows vid pick))
    ∙ ap (λ l. pairs_at rows before ++ l) (filter-append p here rest)
    ∙ sym (append_assoc (pairs_at rows before) (filter p here) (filter p rest))
    ∙ ap (λ l. l ++ filter p rest) (sym is)

-- no version is left
pub versions-all : (p : Pair → Bool) (rows : List Row) (vids : List ℕ) (picks : List (List ℕ)) (i : ℕ) (kept : List Spot) (all : List Pair) → length picks ≤ i
    → all ≡ pairs_at rows kept ++ filter p (pairs_among rows (drop i vids) (drop i picks)) → pairs_at rows kept ≡ all
versions-all p rows vids picks i kept all end h =
    sym (h ∙ ap (λ l. pairs_at rows kept ++ filter p (pairs_among rows (drop i vids) l)) (drop_all i picks end)
    ∙ ap (λ l. pairs_at rows kept ++ filter p l) (none (drop i vids)) ∙ append-nil (pairs_at rows kept)) where
      none : (vids : List ℕ) → pairs_among rows vids [] ≡ []
      none [] = refl
      none (vid ∷ vids) = refl

-- what is made of WHERE for a version takes the same of its spots
pub same-kept : (guard made : Option FoundCond) (rows : List Row) (vid : ℕ) (places : List ℕ) → TakesSame vid guard made
    → filter (is_taken made) (pairs_at rows (spots_in vid places)) ≡ filter (is_taken guard) (pairs_at rows (spots_in vid places))
same-kept guard made rows vid [] same = refl
same-kept guard made rows vid (place ∷ places) same =
    ap₂ (λ t l. cond t (pair_at rows (record { vid = vid; place = place }) ∷ l) l) (same (row_in rows place)) (same-kept guard made rows vid places same)

-- a WHERE that takes nothing keeps what was kept
none-kept : (guard : Option FoundCond) (ps : List Pair) → TakesNone guard → filter (is_taken guard) ps ≡ []
none-kept guard [] none = refl
none-kept guard (p ∷ ps) none = ap₂ (λ t l. cond t (p ∷ l) l) (none p) (none-kept guard ps none)

pub kept-none : (guard made : Option FoundCond) (rows : List Row) (vid : ℕ) (places : List ℕ) (kept : List Pair) → TakesSame vid guard made → TakesNone made
    → kept ≡ kept ++ filter (is_taken guard) (pairs_at rows (spots_in vid places))
kept-none guard made rows vid places kept same none =
    sym (ap (λ l. kept ++ l) (sym (same-kept guard made rows vid places same) ∙ none-kept made (pairs_at rows (spots_in vid places)) none) ∙ append-nil kept)
