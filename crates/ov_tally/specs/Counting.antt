-- What marks at the ends of ranges add up to.
--     total_to sums p      what is added up to a position, its own number too
--     AreTimes count versions sums      of each of so many positions in how many ranges of all versions it is
use Rattle.std.specs.Prelude.{◌≡◌, ℕ, suc, ◌<◌, ◌^◌, ℤ, pos, ◌+ℤ◌, ◌≤ℤ◌, List, [], ◌∷◌, length, take, slice_index_or}
use Rattle.std.specs.List.{All}
use Rattle.ov_tally.specs.Spans.{Spans, times}

abbrev pub total : List ℤ → ℤ
total [] = pos 0
total (x ∷ xs) = x +ℤ total xs

abbrev pub total_to : List ℤ → ℕ → ℤ
total_to sums p = total (take (suc p) sums)

-- from -n to n
abbrev pub IsIn : ℕ → ℤ → Type 0
IsIn n x = (pos 0 ≤ℤ (x +ℤ pos n)) × (x ≤ℤ pos n)

abbrev pub AreWithin : ℕ → List ℤ → Type 0
AreWithin n sums = All (IsIn n) sums

abbrev pub AreNone : List ℤ → Type 0
AreNone sums = All (λ x. x ≡ pos 0) sums

abbrev pub IsFew : ℤ → Type 0
IsFew x = (pos 0 ≤ℤ x) × (x ≤ℤ pos (2 ^ 62))

pub record AreSums (marks sums : List ℤ) : Type 0 where
  pub count : length sums ≡ length marks
  pub each : (p : ℕ) → p < length marks → slice_index_or sums p (pos 0) ≡ total_to marks p

pub record AreTimes (count : ℕ) (versions : List Spans) (sums : List ℤ) : Type 0 where
  pub length_is : length sums ≡ count
  pub each : (p : ℕ) → p < count → slice_index_or sums p (pos 0) ≡ pos (times versions p)
