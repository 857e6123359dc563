-- A list that is filtered, one element after another.
use Rattle.std.proofs.Common.{◌≡◌, ◌<◌, ◌≤◌, ◌+◌, ◌++◌, ◌∷◌, ◌∙◌, [], ℕ, List, Bool, true, false, ap, refl, sym, add-one, length, map, drop, drop-cons, get_or, append-nil}
use Rattle.std.proofs.Math.Seq.{append_snoc}
use Rattle.std.proofs.lemmas.List.{drop_all}
use Rattle.std.specs.Prelude.{filter, if◌then◌else◌}

kept-step : {X : Type 0} (q : X → Bool) (kept : List X) (x : X) (rest : List X) (taken : Bool) → taken ≡ q x
    → kept ++ filter q (x ∷ rest) ≡ (kept ++ (if taken then x ∷ [] else [])) ++ filter q rest
kept-step q kept x rest true e = rw (sym e) (sym (append_snoc kept x (filter q rest)))
kept-step q kept x rest false e = rw (sym e, append-nil kept) refl

pub kept-more : {A X : Type 0} (f : A → X) (q : X → Bool) (xs : List A) (kept : List X) (i : ℕ) (d : A) (taken : Bool) (all : List X) → i < length xs
    → taken ≡ q (f (get_or xs i d)) → all ≡ kept ++ filter q (map f (drop i xs))
    → all ≡ (kept ++ (if taken then f (get_or xs i d) ∷ [] else [])) ++ filter q (map f (drop (i + 1) xs))
kept-more f q xs kept i d taken all lt e h =
    let next : drop i xs ≡ get_or xs i d ∷ drop (i + 1) xs = rw (add-one i) (drop-cons xs i d lt) in
    h ∙ ap (λ l. kept ++ filter q (map f l)) next ∙ kept-step q kept (f (get_or xs i d)) (map f (drop (i + 1) xs)) taken e

pub kept-all : {A X : Type 0} (f : A → X) (q : X → Bool) (xs : List A) (kept : List X) (i : ℕ) (all : List X) → length xs ≤ i
    → all ≡ kept ++ filter q (map f (drop i xs)) → kept ≡ all
kept-all f q xs kept i all end h = sym (h ∙ ap (λ l. kept ++ filter q (map f l)) (drop_all i xs end) ∙ append-nil kept)
