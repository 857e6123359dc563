-- The reserved pages of the page area, and free runs of others.
use Rattle.std.specs.Prelude.{◌≡◌, ℕ, ◌+◌, ◌-◌, ◌^◌, ◌<◌, ◌≤◌, ◌⊎◌, Bool, true, false, not, ◌&&◌, ◌||◌, ◌==◌, nat_lt, nat_le, List}
use Rattle.std.specs.List.{list_any}

-- The reserved pages, ascending, and how many extents can still be freed.
pub record Reserved : Type 0 where
  pub pages : List ℕ
  pub room : ℕ

-- whether a page is among the pages
abbrev pub holds : List ℕ → ℕ → Bool
holds pages page = list_any (λ p. p == page) pages

-- whether a page is one of n pages from first on
abbrev pub is_in_run : ℕ → ℕ → ℕ → Bool
is_in_run first n page = nat_le first page && nat_lt page (first + n)

-- what a test counts for
abbrev pub one_if : Bool → ℕ
one_if true = 1
one_if false = 0

-- n pages from first on are below 2^22, and none of them is reserved
pub record IsFreeRun (pages : List ℕ) (n first : ℕ) : Type 0 where
  pub fits : first + n ≤ 2 ^ 22
  pub free : (page : ℕ) → first ≤ page → page < first + n → holds pages page ≡ false

-- the free run of n pages that begins lowest
pub record IsLowestRun (pages : List ℕ) (n first : ℕ) : Type 0 where
  pub run : IsFreeRun pages n first
  pub lowest : (other : ℕ) → other < first → IsFreeRun pages n other → ⊥

-- no run of n pages can be had: none is free, or its bytes would not fit an extent
abbrev pub IsRefused : List ℕ → ℕ → Type 0
IsRefused pages n = (2 ^ 20 ≤ n) ⊎ ((first : ℕ) → IsFreeRun pages n first → ⊥)

-- the pages of a run are reserved
abbrev pub IsReservedRun : List ℕ → ℕ → ℕ → Type 0
IsReservedRun pages n first = (page : ℕ) → first ≤ page → page < first + n → holds pages page ≡ true

-- the pages of a run came to the others
abbrev pub IsWithRun : List ℕ → List ℕ → ℕ → ℕ → Type 0
IsWithRun old new first n = (page : ℕ) → holds new page ≡ (holds old page || is_in_run first n page)

-- the pages of a run went from the others
abbrev pub IsWithoutRun : List ℕ → List ℕ → ℕ → ℕ → Type 0
IsWithoutRun old new first n = (page : ℕ) → holds new page ≡ (holds old page && not (is_in_run first n page))

-- one past the highest of the pages, or 0 where there is none
pub record IsHighest (pages : List ℕ) (end : ℕ) : Type 0 where
  pub above : (page : ℕ) → holds pages page ≡ true → page < end
  pub last : 0 < end → holds pages (end - 1) ≡ true
