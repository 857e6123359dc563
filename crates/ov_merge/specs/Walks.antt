-- Lists in order, walked once.
--     both R xs ys      two lists that rise, as one; of two that tie the first list's
--     once R xs      the first of each run that ties
use Rattle.std.specs.Prelude.{if◌then◌else◌, List, [], ◌∷◌}
use Rattle.std.specs.Ordering.{is_eq}
use Rattle.std.specs.declared.cmp.Ordering.{Ordering}
use Rattle.std.specs.declared.cmp.Ordering.TheVariants.{Less, Equal, Greater}

abbrev pub by_order : {X : Type 0} → Ordering → X → X → X → X
by_order Less below same above = below
by_order Equal below same above = same
by_order Greater below same above = above

-- `rest` is the walk of what stands behind x with the list that it is given
abbrev pub both_from : {X : Type 0} → (X → X → Ordering) → X → (List X → List X) → List X → List X
both_from R x rest [] = x ∷ rest []
both_from R x rest (y ∷ ys) = by_order (R x y) (x ∷ rest (y ∷ ys)) (x ∷ rest ys) (y ∷ both_from R x rest ys)

abbrev pub both : {X : Type 0} → (X → X → Ordering) → List X → List X → List X
both R [] ys = ys
both R (x ∷ xs) ys = both_from R x (both R xs) ys

-- those behind x, without the run that ties with it
abbrev pub behind : {X : Type 0} → (X → X → Ordering) → X → List X → List X
behind R x [] = []
behind R x (y ∷ ys) = if is_eq (R x y) then behind R x ys else y ∷ behind R y ys

abbrev pub once : {X : Type 0} → (X → X → Ordering) → List X → List X
once R [] = []
once R (x ∷ xs) = x ∷ behind R x xs
