-- Lists of lists, one after another.
use Rattle.std.proofs.Common.{◌≡◌, ◌<◌, ◌≤◌, ◌+◌, ◌∷◌, ◌++◌, ◌∙◌, [], ℕ, zero, suc, List, ap, refl, sym, length, map, take, take-suc, add-one, append-nil, append_assoc, get_or, arith}
use Rattle.std.proofs.lemmas.List.{length-append, map-append}
use Rattle.std.specs.List.{flat_map}

flat-append : {X A : Type 0} (f : X → List A) (xs ys : List X) → flat_map f (xs ++ ys) ≡ flat_map f xs ++ flat_map f ys
flat-append f [] ys = refl
flat-append f (x ∷ xs) ys = ap (λ l. f x ++ l) (flat-append f xs ys) ∙ sym (append_assoc (f x) (flat_map f xs) (flat_map f ys))

pub flat-count : {X A : Type 0} (f : X → List A) (xs : List X) (i : ℕ) (d : X) → i < length xs
    → length (flat_map f (take (i + 1) xs)) ≡ length (flat_map f (take i xs)) + length (f (get_or xs i d))
flat-count f xs i d lt =
    let here : take (i + 1) xs ≡ take i xs ++ get_or xs i d ∷ [] = rw (add-one i) (take-suc xs i d lt) in
    ap (λ l. length (flat_map f l)) here ∙ ap length (flat-append f (take i xs) (get_or xs i d ∷ []) ∙ ap (λ l. flat_map f (take i xs) ++ l) (append-nil (f (get_or xs i d))))
    ∙ length-append (flat_map f (take i xs)) (f (get_or xs i d))

pub flat-under : {X A : Type 0} (f : X → List A) (n : ℕ) (xs : List X) → length (flat_map f (take n xs)) ≤ length (flat_map f xs)
flat-under f zero xs = omega arith
flat-under f (suc n) [] = omega arith
flat-under f (suc n) (x ∷ xs) =
    let before : length (flat_map f (take n xs)) ≤ length (flat_map f xs) = flat-under f n xs in
    rw (length-append (f x) (flat_map f (take n xs)), length-append (f x) (flat_map f xs)) (omega (arith, before))
