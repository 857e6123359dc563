-- How a set of pages is kept: by its edges, ascending. At the first edge its first run begins, one past that
-- run's last page is the second edge, and so on in turn.
use Rattle.std.specs.Prelude.{◌≡◌, ℕ, zero, suc, ◌-◌, ◌^◌, ◌≤◌, Bool, false, not, nat_lt, ◌==◌, if◌then◌else◌, List, [], ◌∷◌, ◌++◌}

-- so many numbers from first on, one by one
unfoldable pub run : ℕ → ℕ → List ℕ
run first zero = []
run first (suc count) = first ∷ run (suc first) count

-- the edges ascend strictly from least on, and none is above 2^22
abbrev pub Ascend : ℕ → List ℕ → Type 0
Ascend least [] = Unit {0}
Ascend least (edge ∷ edges) = (least ≤ edge) × (edge ≤ 2 ^ 22) × Ascend (suc edge) edges

-- whether a page is in, where inside says whether it is below the first edge
abbrev pub status : Bool → List ℕ → ℕ → Bool
status inside [] page = inside
status inside (edge ∷ edges) page = if nat_lt page edge then inside else status (not inside) edges page

-- whether the pages past the last edge are in
abbrev pub ends : Bool → List ℕ → Bool
ends inside [] = inside
ends inside (edge ∷ edges) = ends (not inside) edges

-- edges that close each run that they begin
pub record AreEdges (edges : List ℕ) : Type 0 where
  pub ascend : Ascend 0 edges
  pub closed : ends false edges ≡ false

-- the pages of the runs that begin and end at these edges
abbrev pub pages_between : List ℕ → List ℕ
pages_between [] = []
pages_between (first ∷ []) = []
pages_between (first ∷ past ∷ edges) = run first (past - first) ++ pages_between edges

-- an edge is put in, or taken out where it is there
abbrev pub turned : ℕ → List ℕ → List ℕ
turned edge [] = edge ∷ []
turned edge (x ∷ edges) = if nat_lt edge x then edge ∷ x ∷ edges else (if x == edge then edges else x ∷ turned edge edges)
