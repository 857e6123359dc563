-- A side leaps where the other one keeps all out.
use Rattle.std.proofs.Common.{◌≡◌, ℕ, zero, suc, ◌%◌, ◌<◌, ◌≤◌, Bool, true, false, if◌then◌else◌, not, eqb, List, [], ◌∷◌, length, get_or, drop, refl, inl, inr, length-drop, arith}
use Rattle.std.specs.Prelude.{◌≢◌}
use Rattle.std.proofs.lemmas.Bool.{cases_lt, lt-ltb}
use Rattle.ov_member.specs.declared.walk.Rule.{Rule}
use Rattle.ov_member.specs.declared.walk.Rule.TheVariants.{Either, LeftOnly, Both}
use Rattle.ov_member.specs.Edges.{Ascend, status, ends}
use Rattle.ov_member.specs.Walks.{takes, AreTurns, IsLeap}
use Rattle.ov_member.proofs.EdgeLemmas.{Ascend-weaker, leaps, turned, turned-parity}

pub no_leap : (number : ℕ) (inside : Bool) (edges : List ℕ) → IsLeap number inside edges inside edges
no_leap number inside edges = record { same = λ low h n from. refl; last = refl; ascend = λ low h. h; fewer = omega arith }

ascend_drop : (low : ℕ) (edges : List ℕ) (count : ℕ) → Ascend low edges → Ascend low (drop count edges)
ascend_drop low edges zero h = h
ascend_drop low [] (suc count) h = tt
ascend_drop low (edge ∷ edges) (suc count) h = Ascend-weaker low edge (drop count edges) (omega arith) (ascend_drop edge edges count h.2)

ends_drop : (inside : Bool) (edges : List ℕ) (count : ℕ) → count ≤ length edges → ends (turned count inside) (drop count edges) ≡ ends inside edges
ends_drop inside edges zero le = refl
ends_drop inside [] (suc count) le = absurd (omega arith)
ends_drop inside (edge ∷ edges) (suc count) le = ends_drop (not inside) edges count (omega arith)

-- over so many edges
pub leap_over : (number : ℕ) (inside : Bool) (edges : List ℕ) (count : ℕ) (inside' : Bool) → count ≤ length edges
    → ((low : ℕ) → Ascend low edges → (k : ℕ) → k < count → get_or edges k 0 ≤ number)
    → ((low : ℕ) → Ascend low edges → (k : ℕ) → count ≤ k → k < length edges → number < get_or edges k 0)
    → inside' ≡ (if eqb (count % 2) 1 then not inside else inside) → IsLeap number inside edges inside' (drop count edges)
leap_over number inside edges count inside' le below above is = record {
  same = λ low h n from. (leaps inside edges number count inside' le (below low h) (above low h) is).ahead_is n from;
  last = rw (is, ← turned-parity count inside) (ends_drop inside edges count le);
  ascend = λ low h. ascend_drop low edges count h;
  fewer = omega (arith, length-drop count edges);
}

-- what is outside on the left is out
pub left_out : (rule : Rule) (b : Bool) → rule ≢ Either → takes rule false b ≡ false
left_out Either b other = absurd (other refl)
left_out LeftOnly b other = refl
left_out Both b other = refl

right_out : (a : Bool) → takes Both a false ≡ false
right_out true = refl
right_out false = refl

-- the right side leaps to the next edge of the left one, which is outside
pub right_leaps : (rule : Rule) (edge : ℕ) (left : List ℕ) (b : Bool) (right : List ℕ) (b' : Bool) (right' edges : List ℕ) → rule ≢ Either → IsLeap edge b right b' right'
    → AreTurns rule false (edge ∷ left) b' right' edges → AreTurns rule false (edge ∷ left) b right edges
right_leaps rule edge left b right b' right' edges other leap rest = record {
  ascend = λ low h k. rest.ascend low h (leap.ascend low k);
  same = λ low h k n.
      let before = rest.same low h (leap.ascend low k) n in
      elim (cases_lt n edge) [
        | inl lt ↦ rw (left_out rule b other, lt-ltb n edge lt, left_out rule (status b right n) other) (rw (left_out rule b' other, lt-ltb n edge lt, left_out rule (status b' right' n) other) at before)
        | inr from ↦ rw (left_out rule b other, ← leap.same low k n from) (rw (left_out rule b' other) at before)
      ];
  last = rw (left_out rule b other, ← leap.last) (rw (left_out rule b' other) at rest.last);
}

-- or to its end, where there is no edge left
pub right_ends : (rule : Rule) (b : Bool) (right edges : List ℕ) → rule ≢ Either → AreTurns rule false [] false [] edges → AreTurns rule false [] b right edges
right_ends rule b right edges other rest = record {
  ascend = λ low h k. rest.ascend low h tt;
  same = λ low h k n. rw (left_out rule b other, left_out rule (status b right n) other) (rw (left_out rule false other) at rest.same low h tt n);
  last = rw (left_out rule b other, left_out rule (ends b right) other) (rw (left_out rule false other) at rest.last);
}

pub left_leaps : (edge : ℕ) (right : List ℕ) (a : Bool) (left : List ℕ) (a' : Bool) (left' edges : List ℕ) → IsLeap edge a left a' left'
    → AreTurns Both a' left' false (edge ∷ right) edges → AreTurns Both a left false (edge ∷ right) edges
left_leaps edge right a left a' left' edges leap rest = record {
  ascend = λ low h k. rest.ascend low (leap.ascend low h) k;
  same = λ low h k n.
      let before = rest.same low (leap.ascend low h) k n in
      elim (cases_lt n edge) [
        | inl lt ↦ rw (right_out a, lt-ltb n edge lt, right_out (status a left n)) (rw (right_out a', lt-ltb n edge lt, right_out (status a' left' n)) at before)
        | inr from ↦ rw (right_out a, ← leap.same low h n from) (rw (right_out a') at before)
      ];
  last = rw (right_out a, ← leap.last) (rw (right_out a') at rest.last);
}

pub left_ends : (a : Bool) (left edges : List ℕ) → AreTurns Both false [] false [] edges → AreTurns Both a left false [] edges
left_ends a left edges rest = record {
  ascend = λ low h k. rest.ascend low tt k;
  same = λ low h k n. rw (right_out a, right_out (status a left n)) (rest.same low tt k n);
  last = rw (right_out a, right_out (ends a left)) rest.last;
}
