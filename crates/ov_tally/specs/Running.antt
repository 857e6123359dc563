-- Sums at positions.
--     running n values      n, and n with the values before each later position
--     sum_of f xs      the sum of f over xs; sum_at values places, of the values at these positions
--     IsSmall t      as a sum of 2^31 ints of 64 bits
use Rattle.std.specs.Prelude.{ℕ, ◌^◌, ℤ, pos, ◌+ℤ◌, ◌≤ℤ◌, List, [], ◌∷◌, slice_index_or}

-- the totals behind n
abbrev pub later : ℤ → List ℤ → List ℤ
later n [] = []
later n (v ∷ vs) = (n +ℤ v) ∷ later (n +ℤ v) vs

abbrev pub running : ℤ → List ℤ → List ℤ
running n values = n ∷ later n values

abbrev pub sum_of : {X : Type 0} → (X → ℤ) → List X → ℤ
sum_of f [] = pos 0
sum_of f (x ∷ xs) = f x +ℤ sum_of f xs

abbrev pub sum_at : List ℤ → List ℕ → ℤ
sum_at values places = sum_of (λ p. slice_index_or values p (pos 0)) places

abbrev pub IsSmall : ℤ → Type 0
IsSmall t = (pos 0 ≤ℤ (t +ℤ pos (2 ^ 94))) × (t ≤ℤ pos (2 ^ 94))
