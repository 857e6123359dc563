-- Pages kept by the edges of their runs.
use Rattle.std.proofs.Common.{◌≡◌, ℕ, zero, suc, ◌+◌, ◌-◌, ◌<◌, ◌≤◌, ◌^◌, Bool, true, false, not, ◌||◌, eqb, List, [], ◌∷◌, ◌++◌, length, get_or, take, drop, refl, ◌∙◌, inl, inr, arith}
use Rattle.std.proofs.lemmas.Bool.{cases_eq, cases_lt, cases_Bool, eq-eqb, ne_eqb, lt-ltb, le-ltb}
use Rattle.std.proofs.Math.Seq.{take-length}
use Rattle.std.specs.List.Sorted.{IsNonDecreasing}
use Rattle.ov_pages.specs.Sets.{holds}
use Rattle.ov_pages.specs.Edges.{run, Ascend, status, ends, pages_between}

holds-tail : (x : ℕ) (xs : List ℕ) (n : ℕ) → (x ≡ n → ⊥) → holds (x ∷ xs) n ≡ holds xs n
holds-tail x xs n ne = rw (ne_eqb x n ne) refl

holds-append : (xs ys : List ℕ) (n : ℕ) → holds (xs ++ ys) n ≡ (holds xs n || holds ys n)
holds-append [] ys n = refl
holds-append (x ∷ xs) ys n =
    elim (cases_Bool (eqb x n)) [
      | inl e ↦ rw e refl
      | inr e ↦ rw e (holds-append xs ys n)
    ]

holds-run_in : (first count n : ℕ) → first ≤ n → n < first + count → holds (run first count) n ≡ true
unfolding run
holds-run_in first zero n le lt = absurd (omega arith)
holds-run_in first (suc count) n le lt =
    elim (cases_eq first n) [
      | inl e ↦ rw (eq-eqb first n e) refl
      | inr ne ↦ holds-tail first (run (suc first) count) n ne ∙ holds-run_in (suc first) count n (omega arith) (omega arith)
    ]

holds-run_below : (first count n : ℕ) → n < first → holds (run first count) n ≡ false
unfolding run
holds-run_below first zero n lt = refl
holds-run_below first (suc count) n lt = holds-tail first (run (suc first) count) n (λ e. omega arith) ∙ holds-run_below (suc first) count n (omega arith)

holds-run_past : (first count n : ℕ) → first + count ≤ n → holds (run first count) n ≡ false
unfolding run
holds-run_past first zero n le = refl
holds-run_past first (suc count) n le = holds-tail first (run (suc first) count) n (λ e. omega arith) ∙ holds-run_past (suc first) count n (omega arith)

pub Ascend-weaker : (low high : ℕ) (edges : List ℕ) → low ≤ high → Ascend high edges → Ascend low edges
Ascend-weaker low high [] le h = tt
Ascend-weaker low high (edge ∷ edges) le h = (omega arith, h.1, h.2)

-- below the first edge nothing has turned
pub status-below : (inside : Bool) (least : ℕ) (edges : List ℕ) (n : ℕ) → Ascend least edges → n < least → status inside edges n ≡ inside
status-below inside least [] n h lt = refl
status-below inside least (edge ∷ edges) n h lt = rw (lt-ltb n edge (omega arith)) refl

-- from 2^22 on nothing is reserved
pub status-high : (inside : Bool) (least : ℕ) (edges : List ℕ) (n : ℕ) → Ascend least edges → ends inside edges ≡ false → 2 ^ 22 ≤ n → status inside edges n ≡ false
status-high inside least [] n h e le = e
status-high inside least (edge ∷ edges) n h e le = rw (le-ltb n edge (omega arith)) (status-high (not inside) (suc edge) edges n h.2 e le)

-- what is between the edges is what they say to be in
pub holds-between : (least : ℕ) (edges : List ℕ) (n : ℕ) → Ascend least edges → ends false edges ≡ false → holds (pages_between edges) n ≡ status false edges n
holds-between least [] n h e = refl
holds-between least (first ∷ []) n h e = absurd cc
holds-between least (first ∷ past ∷ edges) n h e =
    let rest = holds-between (suc past) edges n h.2.2 e in
    let parts = holds-append (run first (past - first)) (pages_between edges) n in
    elim (cases_lt n first) [
      | inl lt ↦
          let out = holds-run_below first (past - first) n lt in
          let none = status-below false (suc past) edges n h.2.2 (omega arith) in
          parts ∙ rw (out, rest, none, lt-ltb n first lt) refl
      | inr from ↦ elim (cases_lt n past) [
        | inl lt ↦ parts ∙ rw (holds-run_in first (past - first) n from (omega arith), le-ltb n first from, lt-ltb n past lt) refl
        | inr le ↦ parts ∙ rw (holds-run_past first (past - first) n (omega arith), le-ltb n first from, le-ltb n past le) rest
      ]
    ]

pub Ascend-above : (least : ℕ) (edges : List ℕ) (k : ℕ) (d : ℕ) → Ascend least edges → k < length edges → least ≤ get_or edges k d
Ascend-above least [] k d h lt = absurd (omega arith)
Ascend-above least (edge ∷ edges) zero d h lt = h.0
Ascend-above least (edge ∷ edges) (suc k) d h lt = let next = Ascend-above (suc edge) edges k d h.2 (omega arith) in omega arith

pub Ascend-ordered : (least : ℕ) (edges : List ℕ) → Ascend least edges → IsNonDecreasing edges
Ascend-ordered least [] h i j d le lt = absurd (omega arith)
Ascend-ordered least (edge ∷ edges) h zero zero d le lt = omega arith
Ascend-ordered least (edge ∷ edges) h zero (suc j) d le lt = let next = Ascend-above (suc edge) edges j d h.2 (omega arith) in omega arith
Ascend-ordered least (edge ∷ edges) h (suc i) zero d le lt = absurd (omega arith)
Ascend-ordered least (edge ∷ edges) h (suc i) (suc j) d le lt = Ascend-ordered (suc edge) edges h.2 i j d (omega arith) (omega arith)

-- the first two edges, and those behind them
pub record FrontPair (edges : List ℕ) (first past : ℕ) (others : List ℕ) : Type 0 where
  pub is : edges ≡ first ∷ past ∷ others

pub front_pair : (edges : List ℕ) → 2 ≤ length edges → FrontPair edges (get_or edges 0 0) (get_or edges 1 0) (take (length edges - 2) (drop 2 edges))
front_pair [] le = absurd (omega arith)
front_pair (first ∷ []) le = absurd (omega arith)
front_pair (first ∷ past ∷ edges) le =
    let e : length (first ∷ past ∷ edges) - 2 ≡ length edges = omega arith in
    record { is = rw (e, take-length edges) refl }
