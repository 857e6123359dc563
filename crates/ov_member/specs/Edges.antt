-- How a set of rids is kept: by its edges, ascending. At the first edge its first range begins, one past
-- that range's last rid is the second edge, and so on in turn.
use Rattle.std.specs.Prelude.{◌≡◌, ℕ, ◌+◌, ◌-◌, ◌%◌, ◌==◌, ◌^◌, ◌<◌, ◌≤◌, Bool, false, not, nat_lt, if◌then◌else◌, List, [], ◌∷◌}
use Rattle.ov_member.specs.Lists.{Range, rids_of}

-- the edges ascend strictly above low, and the last rid before one is at most 2^31
abbrev pub Ascend : ℕ → List ℕ → Type 0
Ascend low [] = Unit {0}
Ascend low (edge ∷ edges) = (low < edge) × (edge ≤ 2 ^ 31 + 1) × Ascend edge edges

-- whether a number is in, where inside says whether it is below the first edge
abbrev pub status : Bool → List ℕ → ℕ → Bool
status inside [] number = inside
status inside (edge ∷ edges) number = if nat_lt number edge then inside else status (not inside) edges number

abbrev pub is_odd : ℕ → Bool
is_odd n = n % 2 == 1

-- what is left of a set from some number on: its edges from there, and whether the numbers before the first of them are in
pub record Left : Type 0 where
  pub inside : Bool
  pub edges : List ℕ

-- whether the numbers past the last edge are in
abbrev pub ends : Bool → List ℕ → Bool
ends inside [] = inside
ends inside (edge ∷ edges) = ends (not inside) edges

-- edges that close each range that they begin
pub record AreEdges (edges : List ℕ) : Type 0 where
  pub ascend : Ascend 0 edges
  pub closed : ends false edges ≡ false

-- the ranges that begin and end at these edges, the first from the first edge up to the second
abbrev pub ranges_between : List ℕ → List Range
ranges_between [] = []
ranges_between (first ∷ []) = []
ranges_between (first ∷ past ∷ edges) = record { first = first; count = past - first } ∷ ranges_between edges

abbrev pub rids_between : List ℕ → List ℕ
rids_between edges = rids_of (ranges_between edges)
