-- Walking along the edges of two sets at once, to the edges of a set that is made of them.
use Rattle.std.specs.Prelude.{◌≡◌, ℕ, ◌+◌, ◌≤◌, Bool, not, ◌||◌, ◌&&◌, ◌==◌, min, if◌then◌else◌, List, [], ◌∷◌, length, Option, Some, None}
use Rattle.ov_member.specs.declared.walk.Rule.{Rule}
use Rattle.ov_member.specs.declared.walk.Rule.TheVariants.{Either, LeftOnly, Both}
use Rattle.ov_member.specs.declared.walk.Walk.{Walk}
use Rattle.ov_member.specs.Edges.{Ascend, status, ends}

-- whether a rule takes a rid, by whether it is in the left set and in the right one
abbrev pub takes : Rule → Bool → Bool → Bool
takes Either left right = left || right
takes LeftOnly left right = left && not right
takes Both left right = left && right

-- the lesser of the first edges
abbrev pub nearest : List ℕ → List ℕ → Option ℕ
nearest [] [] = None
nearest (left ∷ lefts) [] = Some left
nearest [] (right ∷ rights) = Some right
nearest (left ∷ lefts) (right ∷ rights) = Some (min left right)

-- the edges past one that may be the first of them
abbrev pub rest_past : ℕ → List ℕ → List ℕ
rest_past edge [] = []
rest_past edge (first ∷ edges) = if first == edge then edges else first ∷ edges

-- whether the numbers right behind it are in
abbrev pub inside_past : ℕ → Bool → List ℕ → Bool
inside_past edge inside [] = inside
inside_past edge inside (first ∷ edges) = if first == edge then not inside else inside

-- The edges are those at which the answer of a rule turns, over the rests of two lists of edges. The two
-- Bools say whether the numbers before these rests are in.
pub record AreTurns (rule : Rule) (in_left : Bool) (left : List ℕ) (in_right : Bool) (right edges : List ℕ) : Type 0 where
  pub ascend : (low : ℕ) → Ascend low left → Ascend low right → Ascend low edges
  pub same : (low : ℕ) → Ascend low left → Ascend low right → (number : ℕ) → status (takes rule in_left in_right) edges number ≡ takes rule (status in_left left number) (status in_right right number)
  pub last : ends (takes rule in_left in_right) edges ≡ takes rule (ends in_left left) (ends in_right right)

-- the turns that a walk has still before it
abbrev pub Awaits : Walk → List ℕ → Type 0
Awaits walk edges = AreTurns walk.rule walk.left.inside walk.left.edges.now walk.right.inside walk.right.edges.now edges

-- a bound below both rests
abbrev pub IsAbove : ℕ → Walk → Type 0
IsAbove low walk = Ascend low walk.left.edges.now × Ascend low walk.right.edges.now

abbrev pub edges_left : Walk → ℕ
edges_left walk = length walk.left.edges.now + length walk.right.edges.now

-- whether the rids before both rests are in the set that is made
abbrev pub taken : Walk → Bool
taken walk = takes walk.rule walk.left.inside walk.right.inside

-- what is left of a side that leapt over edges up to a number: the same from that number on
pub record IsLeap (number : ℕ) (inside : Bool) (edges : List ℕ) (inside' : Bool) (edges' : List ℕ) : Type 0 where
  pub same : (low : ℕ) → Ascend low edges → (n : ℕ) → number ≤ n → status inside' edges' n ≡ status inside edges n
  pub last : ends inside' edges' ≡ ends inside edges
  pub ascend : (low : ℕ) → Ascend low edges → Ascend low edges'
  pub fewer : length edges' ≤ length edges
