-- What the arrays by vid have to say while a part is cut.
use Rattle.std.specs.Prelude.{◌≡◌, ℕ, List, slice_index}
use Rattle.ov_graph.specs.Trees.{VersionTree, total}
use Rattle.ov_graph.specs.Splits.{Has, lower}

-- at each version of the part stands f of it
abbrev pub Stands : (ℕ → ℕ) → List ℕ → List ℕ → Type 0
Stands f part sums = (vid : ℕ) → Has part vid → slice_index sums vid ≡ f vid

-- the sum over the versions under a vid
abbrev pub total_under : VersionTree → (ℕ → ℕ) → List ℕ → ℕ → ℕ
total_under tree f part vid = total f (lower tree vid part)
