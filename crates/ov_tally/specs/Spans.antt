-- Positions of ranges.
--     run first count      so many numbers from first on
--     places_in spans      the positions of ranges, range by range; places_of versions, of the ranges of versions, one by one
--     IsBelow count span      a range of the positions before the last of so many; AreBelow count spans, all ranges of a version
--     AreApart spans      ranges that ascend, each from the end of the one before it on or behind it
--     covers spans p      how many of these ranges have a position; times versions p, of the ranges of all versions
--     has places p      whether a position is among some; how_often places p, how often it is
use Rattle.std.specs.Prelude.{ℕ, zero, suc, ◌-◌, ◌≤◌, ◌<◌, ◌^◌, ◌==◌, Bool, nat_lt, cond, List, [], ◌∷◌, length}
use Rattle.std.specs.List.{All, count_by, flat_map, list_any, sum_by}
use Rattle.std.specs.declared.alloc.Global.{Global}
use Rattle.std.specs.declared.vec.Vec.{Vec}
use Rattle.ov_tally.specs.declared.span.Span.{Span}

unfoldable pub run : ℕ → ℕ → List ℕ
run first zero = []
run first (suc count) = first ∷ run (suc first) count

abbrev pub places_in : List Span → List ℕ
places_in spans = flat_map (λ s. run s.first (s.past - s.first)) spans

abbrev pub IsBelow : ℕ → Span → Type 0
IsBelow count s = (s.first ≤ s.past) × (s.past < count)

-- the ranges of a version
abbrev pub Spans : Type 0
Spans = Vec Span Global

abbrev pub AreBelow : ℕ → Spans → Type 0
AreBelow count spans = All (IsBelow count) spans.items

abbrev pub IsShort : Spans → Type 0
IsShort spans = length spans.items ≤ 2 ^ 30

abbrev pub places_of : List Spans → List ℕ
places_of versions = flat_map (λ spans. places_in spans.items) versions

-- the ranges ascend from there on
abbrev pub AreApartFrom : ℕ → List Span → Type 0
AreApartFrom least [] = Unit {0}
AreApartFrom least (s ∷ spans) = (least ≤ s.first) × (s.first ≤ s.past) × AreApartFrom s.past spans

abbrev pub AreApart : List Span → Type 0
AreApart spans = AreApartFrom 0 spans

-- 1 where a range has a position, else 0
abbrev pub in_span : ℕ → Span → ℕ
in_span p s = cond (nat_lt p s.first) 0 (cond (nat_lt p s.past) 1 0)

abbrev pub covers : List Span → ℕ → ℕ
covers spans p = sum_by (in_span p) spans

abbrev pub times : List Spans → ℕ → ℕ
times versions p = sum_by (λ spans. covers spans.items p) versions

abbrev pub has : List ℕ → ℕ → Bool
has places p = list_any (λ q. q == p) places

abbrev pub how_often : List ℕ → ℕ → ℕ
how_often places p = count_by (λ q. q == p) places
