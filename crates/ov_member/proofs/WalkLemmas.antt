-- A walk past one edge.
use Rattle.std.proofs.Common.{◌≡◌, ℕ, ◌+◌, ◌<◌, ◌≤◌, ◌^◌, Bool, true, false, not, min, List, [], ◌∷◌, length, Option, Some, refl, sym, ◌∙◌, inl, inr, arith}
use mathlib.Core.Bool.{beq}
use Rattle.std.proofs.lemmas.Bool.{cases_eq, cases_lt, lt-ltb, le-ltb, eq-eqb, ne_eqb}
use Rattle.ov_member.specs.declared.walk.Rule.{Rule}
use Rattle.ov_member.specs.declared.walk.Rule.TheVariants.{Either, LeftOnly, Both}
use Rattle.ov_member.specs.Rids.{has}
use Rattle.ov_member.specs.Edges.{Ascend, status, ends, AreEdges, rids_between}
use Rattle.ov_member.specs.Walks.{takes, nearest, rest_past, inside_past, AreTurns}
use Rattle.ov_member.proofs.EdgeLemmas.{Ascend-weaker, status-below, has-between}

-- no edge is before this one
abbrev pub NoneBefore : ℕ → List ℕ → Type 0
NoneBefore edge [] = Unit {0}
NoneBefore edge (first ∷ edges) = edge ≤ first

-- a side and what is left of it past an edge
pub record SidePast (edge : ℕ) (inside : Bool) (edges : List ℕ) (inside' : Bool) (edges' : List ℕ) : Type 0 where
  pub before : (n : ℕ) → n < edge → status inside edges n ≡ inside
  pub behind : (n : ℕ) → edge ≤ n → status inside edges n ≡ status inside' edges' n
  pub last : ends inside edges ≡ ends inside' edges'
  pub ascend : (low : ℕ) → Ascend low edges → Ascend edge edges'
  pub fewer : length edges' ≤ length edges

pub side_past : (edge : ℕ) (inside : Bool) (edges : List ℕ) → NoneBefore edge edges → SidePast edge inside edges (inside_past edge inside edges) (rest_past edge edges)
side_past edge inside [] le = record { before = λ n lt. refl; behind = λ n from. refl; last = refl; ascend = λ low h. tt; fewer = omega arith }
side_past edge inside (first ∷ edges) le =
    elim (cases_eq first edge) [
      | inl e ↦ rw (eq-eqb first edge e) (record {
        before = λ n lt. rw (lt-ltb n first (omega arith)) refl;
        behind = λ n from. rw (le-ltb n first (omega arith)) refl;
        last = refl;
        ascend = λ low h. rw (← e) h.2;
        fewer = omega arith;
      })
      | inr ne ↦ rw (ne_eqb first edge ne) (record {
        before = λ n lt. rw (lt-ltb n first (omega arith)) refl;
        behind = λ n from. refl;
        last = refl;
        ascend = λ low h. (omega arith, h.1, h.2);
        fewer = omega arith;
      })
    ]

-- the nearest edge is the first on one side or both
pub record IsNearest (edge : ℕ) (left right : List ℕ) : Type 0 where
  pub left_from : NoneBefore edge left
  pub right_from : NoneBefore edge right
  pub bounds : (low : ℕ) → Ascend low left → Ascend low right → (low < edge) × (edge ≤ 2 ^ 31 + 1)
  pub fewer : length (rest_past edge left) + length (rest_past edge right) < length left + length right

first_fewer : (edge : ℕ) (edges : List ℕ) → length (rest_past edge (edge ∷ edges)) ≡ length edges
first_fewer edge edges = rw (eq-eqb edge edge refl) refl

some_is : (x y : ℕ) → Some x ≡ Some y → x ≡ y
some_is x y e = cc

pub is_nearest : (edge : ℕ) (left right : List ℕ) → nearest left right ≡ Some edge → IsNearest edge left right
is_nearest edge [] [] e = absurd cc
is_nearest edge (x ∷ left) [] e =
    let is : x ≡ edge = some_is x edge e in
    let fewer = first_fewer x left in
    record { left_from = omega arith; right_from = tt; bounds = λ low h k. (omega arith, omega arith); fewer = rw (← is) (omega arith) }
is_nearest edge [] (y ∷ right) e =
    let is : y ≡ edge = some_is y edge e in
    let fewer = first_fewer y right in
    record { left_from = tt; right_from = omega arith; bounds = λ low h k. (omega arith, omega arith); fewer = rw (← is) (omega arith) }
is_nearest edge (x ∷ left) (y ∷ right) e =
    let is : min x y ≡ edge = some_is (min x y) edge e in
    let left_past = (side_past edge true (x ∷ left) (omega arith)).fewer in
    let right_past = (side_past edge true (y ∷ right) (omega arith)).fewer in
    record {
      left_from = omega arith;
      right_from = omega arith;
      bounds = λ low h k. (omega arith, omega arith);
      fewer = elim (cases_eq x edge) [
        | inl e ↦ let one : length (rest_past edge (x ∷ left)) ≡ length left = rw (← e) (first_fewer x left) in omega arith
        | inr ne ↦ let e : y ≡ edge = omega arith in let one : length (rest_past edge (y ∷ right)) ≡ length right = rw (← e) (first_fewer y right) in omega arith
      ];
    }

pub nearest_none : (left right : List ℕ) (found : Option ℕ) → found ≡ nearest left right → ((edge : ℕ) → found ≡ Some edge → ⊥) → (left ≡ []) × (right ≡ [])
nearest_none [] [] found e none = (refl, refl)
nearest_none (x ∷ left) [] found e none = absurd (none x e)
nearest_none [] (y ∷ right) found e none = absurd (none y e)
nearest_none (x ∷ left) (y ∷ right) found e none = absurd (none (min x y) e)

-- at the end nothing turns any more
pub no_turns : (rule : Rule) (a b : Bool) → AreTurns rule a [] b [] []
no_turns rule a b = record { ascend = λ low h k. tt; same = λ low h k n. refl; last = refl }

-- both sides, and what is left of them past the nearest edge
pub record Step (edge : ℕ) (a : Bool) (left : List ℕ) (b : Bool) (right : List ℕ) (a' : Bool) (left' : List ℕ) (b' : Bool) (right' : List ℕ) : Type 0 where
  pub near : IsNearest edge left right
  pub on_left : SidePast edge a left a' left'
  pub on_right : SidePast edge b right b' right'
  pub fewer : length left' + length right' < length left + length right

pub step_past : (edge : ℕ) (a : Bool) (left : List ℕ) (b : Bool) (right : List ℕ) (a' : Bool) (left' : List ℕ) (b' : Bool) (right' : List ℕ) → Some edge ≡ nearest left right
    → left' ≡ rest_past edge left → a' ≡ inside_past edge a left → right' ≡ rest_past edge right → b' ≡ inside_past edge b right → Step edge a left b right a' left' b' right'
step_past edge a left b right a' left' b' right' e l la r rb =
    let near = is_nearest edge left right (sym e) in
    rw (l, la, r, rb) (record { near = near; on_left = side_past edge a left near.left_from; on_right = side_past edge b right near.right_from; fewer = near.fewer })

-- past an edge at which the rule's answer turns
pub turns : (rule : Rule) (edge : ℕ) (a : Bool) (left : List ℕ) (b : Bool) (right : List ℕ) (a' : Bool) (left' : List ℕ) (b' : Bool) (right' edges : List ℕ)
    → Step edge a left b right a' left' b' right' → takes rule a' b' ≡ not (takes rule a b) → AreTurns rule a' left' b' right' edges → AreTurns rule a left b right (edge ∷ edges)
turns rule edge a left b right a' left' b' right' edges step turn rest =
    let l = step.on_left in
    let r = step.on_right in
    record {
      ascend = λ low h k. ((step.near.bounds low h k).0, (step.near.bounds low h k).1, rest.ascend edge (l.ascend low h) (r.ascend low k));
      same = λ low h k n.
          elim (cases_lt n edge) [
            | inl lt ↦ rw (lt-ltb n edge lt, l.before n lt, r.before n lt) refl
            | inr from ↦ rw (le-ltb n edge from, l.behind n from, r.behind n from, ← turn) (rest.same edge (l.ascend low h) (r.ascend low k) n)
          ];
      last = rw (l.last, r.last, ← turn) rest.last;
    }

-- past an edge at which it does not
pub stays : (rule : Rule) (edge : ℕ) (a : Bool) (left : List ℕ) (b : Bool) (right : List ℕ) (a' : Bool) (left' : List ℕ) (b' : Bool) (right' edges : List ℕ)
    → Step edge a left b right a' left' b' right' → takes rule a' b' ≡ takes rule a b → AreTurns rule a' left' b' right' edges → AreTurns rule a left b right edges
stays rule edge a left b right a' left' b' right' edges step same rest =
    let l = step.on_left in
    let r = step.on_right in
    record {
      ascend = λ low h k. let bound = (step.near.bounds low h k).0 in Ascend-weaker low edge edges (omega arith) (rest.ascend edge (l.ascend low h) (r.ascend low k));
      same = λ low h k n.
          elim (cases_lt n edge) [
            | inl lt ↦ rw (l.before n lt, r.before n lt) (status-below (takes rule a b) edge edges n (rest.ascend edge (l.ascend low h) (r.ascend low k)) (omega arith))
            | inr from ↦ rw (l.behind n from, r.behind n from, ← same) (rest.same edge (l.ascend low h) (r.ascend low k) n)
          ];
      last = rw (l.last, r.last, ← same) rest.last;
    }

pub differ : (x y : Bool) → not (beq x y) ≡ true → x ≡ not y
differ true true e = absurd cc
differ true false e = refl
differ false true e = refl
differ false false e = absurd cc

pub agree : (x y : Bool) → not (beq x y) ≡ false → x ≡ y
agree true true e = refl
agree true false e = absurd cc
agree false true e = absurd cc
agree false false e = refl

takes-neither : (rule : Rule) → takes rule false false ≡ false
takes-neither Either = refl
takes-neither LeftOnly = refl
takes-neither Both = refl

-- the turns are the edges of a set, and what a rule takes is in it
pub record IsMade (rule : Rule) (left right edges : List ℕ) : Type 0 where
  pub sound : AreEdges edges
  pub members : (n : ℕ) → has (rids_between edges) n ≡ takes rule (has (rids_between left) n) (has (rids_between right) n)

pub is_made : (rule : Rule) (left right edges : List ℕ) → AreEdges left → AreEdges right → AreTurns rule false left false right edges → IsMade rule left right edges
is_made rule left right edges h k turned =
    let neither = takes-neither rule in
    let ascend = turned.ascend 0 h.ascend k.ascend in
    let last : ends false edges ≡ false = rw neither at (rw (neither, h.closed, k.closed) at turned.last) in
    record {
      sound = record { ascend = ascend; closed = last };
      members = λ n.
          let same : status false edges n ≡ takes rule (status false left n) (status false right n) = rw neither at (turned.same 0 h.ascend k.ascend n) in
          has-between 0 edges n ascend last ∙ same ∙ rw (has-between 0 left n h.ascend h.closed, has-between 0 right n k.ascend k.closed) refl;
    }
