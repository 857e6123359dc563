-- Cuts of a part one after another: what each leaves.
use Rattle.std.specs.Prelude.{◌≡◌, ℕ, suc, ◌-◌, ◌<◌, ◌==◌, if◌then◌else◌, List, [], ◌∷◌, length, filter, Some, slice_index, slice_index_or}
use Rattle.ov_graph.specs.Trees.{VersionTree}
use Rattle.ov_graph.specs.Splits.{Has, edges, is_under, lower, upper, next_cut_of}

-- what is left of a part behind these cuts
abbrev pub left : VersionTree → List ℕ → List ℕ → List ℕ
left tree part [] = part
left tree part (cut ∷ cuts) = left tree (upper tree cut part) cuts

-- the lower side of each cut
abbrev pub lowers : VersionTree → List ℕ → List ℕ → List (List ℕ)
lowers tree part [] = []
lowers tree part (cut ∷ cuts) = lower tree cut part ∷ lowers tree (upper tree cut part) cuts

-- each cut is that of an edge of what the earlier ones left
abbrev pub AreInside : VersionTree → List ℕ → List ℕ → Type 0
AreInside tree part [] = Unit {0}
AreInside tree part (cut ∷ cuts) = Has (edges part) cut × AreInside tree (upper tree cut part) cuts

-- each cut is the next one of what the earlier ones left
abbrev pub AreNext : VersionTree → ℕ → ℕ → List ℕ → List ℕ → Type 0
AreNext tree p q part [] = Unit {0}
AreNext tree p q part (cut ∷ cuts) = (next_cut_of tree p q part ≡ Some cut) × AreNext tree p q (upper tree cut part) cuts

-- Cuts are numbered from the last one, which is 1. The number of a cut, by its vid; 0 of any other vid
abbrev pub number_of : List ℕ → ℕ → ℕ
number_of [] vid = 0
number_of (cut ∷ cuts) vid = if vid == cut then suc (length cuts) else number_of cuts vid

-- the number of the first cut that a version lies under, 0 where it lies under none
abbrev pub cut_over : VersionTree → List ℕ → ℕ → ℕ
cut_over tree [] vid = 0
cut_over tree (cut ∷ cuts) vid = if is_under tree cut vid then suc (length cuts) else cut_over tree cuts vid

-- the versions of a part at which a number stands
abbrev pub numbered : List ℕ → ℕ → List ℕ → List ℕ
numbered numbers n part = filter (λ vid. slice_index numbers vid == n) part

-- the versions of a part at which count stands, then those at which the number below it does, down to 1
abbrev pub AreNumbered : ℕ → List ℕ → List ℕ → List (List ℕ) → Type 0
AreNumbered count numbers part lists = (at : ℕ) → at < count → slice_index_or lists at [] ≡ numbered numbers (count - at) part
