-- Members of lists.
use Rattle.std.specs.Prelude.{◌≡◌, ◌⊎◌, List, [], ◌∷◌}
use Rattle.std.specs.List.{flat_map}
use Rattle.std.specs.declared.cmp.Ordering.{Ordering}
use Rattle.std.specs.declared.cmp.Ordering.TheVariants.{Less}

-- these lists, one after another
abbrev pub joined : {X : Type 0} → List (List X) → List X
joined lists = flat_map (λ xs. xs) lists

-- it is one of these
abbrev pub IsIn : {X : Type 0} → List X → X → Type 0
IsIn [] x = ⊥
IsIn (y ∷ ys) x = (x ≡ y) ⊎ IsIn ys x

-- each is one of these
abbrev pub AreIn : {X : Type 0} → List X → List X → Type 0
AreIn [] all = Unit {0}
AreIn (x ∷ xs) all = IsIn all x × AreIn xs all

-- each of each list is one of these
abbrev pub AllAreIn : {X : Type 0} → List (List X) → List X → Type 0
AllAreIn [] all = Unit {0}
AllAreIn (xs ∷ xss) all = AreIn xs all × AllAreIn xss all

-- it is less than each of these
abbrev pub IsBelow : {X : Type 0} → (X → X → Ordering) → X → List X → Type 0
IsBelow R x [] = Unit {0}
IsBelow R x (y ∷ ys) = (R x y ≡ Less) × IsBelow R x ys

-- each is less than all that stand behind it
abbrev pub Rises : {X : Type 0} → (X → X → Ordering) → List X → Type 0
Rises R [] = Unit {0}
Rises R (x ∷ xs) = IsBelow R x xs × Rises R xs
