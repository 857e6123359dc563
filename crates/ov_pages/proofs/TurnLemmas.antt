-- An edge is put in or taken out, and what that makes of the pages.
use Rattle.std.proofs.Common.{◌≡◌, ℕ, zero, suc, ◌+◌, ◌<◌, ◌≤◌, ◌^◌, Bool, true, false, not, List, [], ◌∷◌, ◌++◌, length, get_or, take, drop, refl, sym, ap, ◌∙◌, inl, inr, arith}
use Rattle.std.proofs.lemmas.Bool.{cases_eq, cases_lt, eq-eqb, ne_eqb, lt-ltb, le-ltb}
use Rattle.ov_pages.specs.Edges.{Ascend, status, ends, AreEdges, turned}
use Rattle.ov_pages.proofs.EdgeLemmas.{Ascend-weaker, status-below}

not-not : (b : Bool) → not (not b) ≡ b
not-not true = refl
not-not false = refl

status-not : (inside : Bool) (edges : List ℕ) (n : ℕ) → status (not inside) edges n ≡ not (status inside edges n)
status-not inside [] n = refl
status-not inside (edge ∷ edges) n =
    elim (cases_lt n edge) [
      | inl lt ↦ rw (lt-ltb n edge lt) refl
      | inr le ↦ rw (le-ltb n edge le) (status-not (not inside) edges n)
    ]

-- what one edge turns: the pages from it on
pub record Turns (edge : ℕ) (inside : Bool) (old new : List ℕ) : Type 0 where
  pub below : (n : ℕ) → n < edge → status inside new n ≡ status inside old n
  pub from : (n : ℕ) → edge ≤ n → status inside new n ≡ not (status inside old n)
  pub last : ends inside new ≡ not (ends inside old)
  pub longer : length new ≤ suc (length old)
  pub ascend : (least : ℕ) → Ascend least old → least ≤ edge → edge ≤ 2 ^ 22 → Ascend least new

ends-not : (inside : Bool) (edges : List ℕ) → ends (not inside) edges ≡ not (ends inside edges)
ends-not inside [] = refl
ends-not inside (edge ∷ edges) = ends-not (not inside) edges

pub turns : (edge : ℕ) (inside : Bool) (least : ℕ) (edges : List ℕ) → Ascend least edges → Turns edge inside edges (turned edge edges)
turns edge inside least [] h = record {
  below = λ n lt. rw (lt-ltb n edge lt) refl;
  from = λ n le. rw (le-ltb n edge le) refl;
  last = refl;
  longer = omega arith;
  ascend = λ low k le limit. (le, limit, tt);
}
turns edge inside least (x ∷ edges) h =
    elim (cases_lt edge x) [
      | inl lt ↦ rw (lt-ltb edge x lt) (record {
        below = λ n below. rw (lt-ltb n edge below, lt-ltb n x (omega arith)) refl;
        from = λ n le. rw (le-ltb n edge le) (status-not inside (x ∷ edges) n);
        last = ends-not inside (x ∷ edges);
        longer = omega arith;
        ascend = λ low k le limit. (le, limit, (omega arith, k.1, k.2));
      })
      | inr from ↦ elim (cases_eq x edge) [
        | inl e ↦ rw (le-ltb edge x from, eq-eqb x edge e) (record {
          below = λ n below. rw (lt-ltb n x (omega arith)) (status-below inside (suc x) edges n h.2 (omega arith));
          from = λ n le. rw (le-ltb n x (omega arith)) (sym (ap not (status-not inside edges n) ∙ not-not (status inside edges n)));
          last = sym (ap not (ends-not inside edges) ∙ not-not (ends inside edges));
          longer = omega arith;
          ascend = λ low k le limit. Ascend-weaker low (suc x) edges (omega arith) k.2;
        })
        | inr ne ↦
            let rest = turns edge (not inside) (suc x) edges h.2 in
            rw (le-ltb edge x from, ne_eqb x edge ne) (record {
              below = λ n below. elim (cases_lt n x) [
                | inl lt ↦ rw (lt-ltb n x lt) refl
                | inr le ↦ rw (le-ltb n x le) (rest.below n below)
              ];
              from = λ n le. rw (le-ltb n x (omega arith)) (rest.from n le);
              last = rest.last;
              longer = let more = rest.longer in omega arith;
              ascend = λ low k le limit. (k.0, k.1, rest.ascend (suc x) k.2 (omega arith) limit);
            })
      ]
    ]

-- the place of an edge among those that ascend
pub turned-insert : (edge least : ℕ) (edges : List ℕ) (i : ℕ) → Ascend least edges → i ≤ length edges → ((k : ℕ) → k < i → get_or edges k 0 < edge) → (i < length edges → edge < get_or edges i 0)
    → take i edges ++ edge ∷ drop i edges ≡ turned edge edges
turned-insert edge least [] zero h le below at = refl
turned-insert edge least [] (suc i) h le below at = absurd (omega arith)
turned-insert edge least (x ∷ edges) zero h le below at = rw (lt-ltb edge x (at (omega arith))) refl
turned-insert edge least (x ∷ edges) (suc i) h le below at =
    let lt = below 0 (omega arith) in
    rw (le-ltb edge x (omega arith), ne_eqb x edge (λ e. omega arith)) (ap (λ (xs : List ℕ). x ∷ xs) (turned-insert edge (suc x) edges i h.2 (omega arith) (λ k lt. below (suc k) (omega arith)) (λ lt. at (omega arith))))

pub turned-remove : (edge least : ℕ) (edges : List ℕ) (i : ℕ) → Ascend least edges → i < length edges → get_or edges i 0 ≡ edge → ((k : ℕ) → k < i → get_or edges k 0 < edge)
    → take i edges ++ drop (suc i) edges ≡ turned edge edges
turned-remove edge least [] i h lt is below = absurd (omega arith)
turned-remove edge least (x ∷ edges) zero h lt is below = rw (le-ltb edge x (omega arith), eq-eqb x edge is) refl
turned-remove edge least (x ∷ edges) (suc i) h lt is below =
    let less = below 0 (omega arith) in
    rw (le-ltb edge x (omega arith), ne_eqb x edge (λ e. omega arith)) (ap (λ (xs : List ℕ). x ∷ xs) (turned-remove edge (suc x) edges i h.2 (omega arith) is (λ k lt. below (suc k) (omega arith))))

-- what both edges of a run turn: its pages
pub record TurnsRun (first past : ℕ) (old new : List ℕ) : Type 0 where
  pub sound : AreEdges new
  pub longer : length new ≤ length old + 2
  pub before : (n : ℕ) → n < first → status false new n ≡ status false old n
  pub within : (n : ℕ) → first ≤ n → n < past → status false new n ≡ not (status false old n)
  pub behind : (n : ℕ) → past ≤ n → status false new n ≡ status false old n

pub turns_run : (first past : ℕ) (edges : List ℕ) → AreEdges edges → first < past → past ≤ 2 ^ 22 → TurnsRun first past edges (turned past (turned first edges))
turns_run first past edges sound lt limit =
    let one = turns first false 0 edges sound.ascend in
    let ascend = one.ascend 0 sound.ascend (omega arith) (omega arith) in
    let two = turns past false 0 (turned first edges) ascend in
    record {
      sound = record { ascend = two.ascend 0 ascend (omega arith) limit; closed = two.last ∙ ap not (one.last ∙ ap not sound.closed) };
      longer = let a = one.longer in let b = two.longer in omega arith;
      before = λ n below. two.below n (omega arith) ∙ one.below n below;
      within = λ n from to. two.below n to ∙ one.from n from;
      behind = λ n from. two.from n from ∙ ap not (one.from n (omega arith)) ∙ not-not (status false edges n);
    }
