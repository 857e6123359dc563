-- Sets of record ids, each as the list of its rids from the least to the greatest.
use Rattle.std.specs.Prelude.{◌≡◌, ℕ, suc, ◌^◌, ◌≤◌, Bool, true, not, ◌||◌, ◌==◌, List, [], ◌∷◌, All, filter}
use Rattle.std.specs.List.{list_any}

-- the numbers ascend strictly, the first is at least least, and none is above 2^31
abbrev pub RiseFrom : ℕ → List ℕ → Type 0
RiseFrom least [] = Unit {0}
RiseFrom least (rid ∷ rids) = (least ≤ rid) × (rid ≤ 2 ^ 31) × RiseFrom (suc rid) rids

-- a set of rids: they ascend, each once, and are from 1 to 2^31
abbrev pub AreRids : List ℕ → Type 0
AreRids rids = RiseFrom 1 rids

-- whether a rid is among the rids
abbrev pub has : List ℕ → ℕ → Bool
has rids rid = list_any (λ x. x == rid) rids

-- the rids of xs that are in ys too
abbrev pub shared : List ℕ → List ℕ → List ℕ
shared xs ys = filter (λ rid. has ys rid) xs

-- the rids of xs that are not in ys
abbrev pub left_out : List ℕ → List ℕ → List ℕ
left_out xs ys = filter (λ rid. not (has ys rid)) xs

-- zs is the set of what is in xs or in ys
pub record IsUnion (xs ys zs : List ℕ) : Type 0 where
  pub rids : AreRids zs
  pub members : (rid : ℕ) → has zs rid ≡ (has xs rid || has ys rid)

-- it is one of the rids, and none is above it
pub record IsGreatest (rids : List ℕ) (rid : ℕ) : Type 0 where
  pub there : has rids rid ≡ true
  pub above : All (λ other. other ≤ rid) rids
