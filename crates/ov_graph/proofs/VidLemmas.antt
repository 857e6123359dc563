-- Ascending lists of vids, and what a filter keeps of them.
use Rattle.std.proofs.Common.{◌≡◌, ℕ, zero, suc, ◌+◌, ◌-◌, ◌<◌, ◌≤◌, Bool, true, false, ◌↔◌, List, [], ◌∷◌, length, filter, get_or, sym, ◌∙◌, subst, inl, inr, arith}
use Rattle.std.specs.List.{Contains, range_with_len}
use Rattle.std.specs.List.Sorted.{IsStrictlyIncreasing}
use Rattle.std.proofs.lemmas.Bool.{cases_Bool, cond-true, cond-false}
use Rattle.std.proofs.lemmas.List.FromFn.{length-range_with_len, get_or-range_with_len}
use Rattle.std.proofs.lemmas.List.Elements.{All-filter, All-contains, All-contains_itself, filter_passes}
use Rattle.ov_graph.specs.Trees.{vids}
use Rattle.ov_graph.specs.Entries.{AreMarks, marked_vids}

-- the numbers ascend, above low
abbrev pub Rises : ℕ → List ℕ → Type 0
Rises low [] = Unit {0}
Rises low (vid ∷ vids) = (low < vid) × Rises vid vids

pub Rises-weaker : (low high : ℕ) (xs : List ℕ) → low ≤ high → Rises high xs → Rises low xs
Rises-weaker low high [] le rises = tt
Rises-weaker low high (x ∷ xs) le rises = (omega arith, rises.1)

pub Rises-filter : (p : ℕ → Bool) (low : ℕ) (xs : List ℕ) → Rises low xs → Rises low (filter p xs)
Rises-filter p low [] rises = tt
Rises-filter p low (x ∷ xs) rises =
    elim (cases_Bool (p x)) [
      | inl kept ↦ rw (cond-true (p x) (x ∷ filter p xs) (filter p xs) kept) (rises.0, Rises-filter p x xs rises.1)
      | inr left ↦ rw (cond-false (p x) (x ∷ filter p xs) (filter p xs) left) (Rises-weaker low x (filter p xs) (omega arith) (Rises-filter p x xs rises.1))
    ]

pub Rises-range : (low from count : ℕ) → low < from → Rises low (range_with_len from count)
Rises-range low from zero lt = tt
Rises-range low from (suc count) lt = (lt, Rises-range from (from + 1) count (omega arith))

pub increases : (low : ℕ) (xs : List ℕ) → Rises low xs → IsStrictlyIncreasing xs
increases low [] rises k lt = absurd (omega arith)
increases low (x ∷ []) rises k lt = absurd (omega arith)
increases low (x ∷ y ∷ xs) rises zero lt = rises.1.0
increases low (x ∷ y ∷ xs) rises (suc k) lt = let next = increases x (y ∷ xs) rises.1 k (omega arith) in let s : suc k + 1 ≡ suc (k + 1) = omega arith in rw s next

contains-more : (x : ℕ) (xs : List ℕ) (v : ℕ) → Contains xs v → Contains (x ∷ xs) v
contains-more x xs v (k, lt, e) = (suc k, omega arith, e)

pub contains-filter : (p : ℕ → Bool) (xs : List ℕ) (v : ℕ) → p v ≡ true → Contains xs v → Contains (filter p xs) v
contains-filter p [] v passes (k, lt, e) = absurd (omega arith)
contains-filter p (x ∷ xs) v passes (zero, lt, e) =
    let kept = cond-true (p x) (x ∷ filter p xs) (filter p xs) (rw e passes) in
    rw kept (0, omega arith, e)
contains-filter p (x ∷ xs) v passes (suc k, lt, e) =
    let rest : Contains (filter p xs) v = contains-filter p xs v passes (k, omega arith, e) in
    elim (cases_Bool (p x)) [
      | inl kept ↦ rw (cond-true (p x) (x ∷ filter p xs) (filter p xs) kept) (contains-more x (filter p xs) v rest)
      | inr left ↦ rw (cond-false (p x) (x ∷ filter p xs) (filter p xs) left) rest
    ]

-- the vids up to a count
pub contains-vids : (count v : ℕ) → 1 ≤ v → v ≤ count → Contains (vids count) v
contains-vids count v one le =
    let long = length-range_with_len 1 count in
    (v - 1, omega arith, get_or-range_with_len 1 count (v - 1) v (omega arith) ∙ (let e : 1 + (v - 1) ≡ v = omega arith in e))

pub vids-contain : (count v : ℕ) → Contains (vids count) v → (1 ≤ v) × (v ≤ count)
vids-contain count v (k, lt, e) =
    let long = length-range_with_len 1 count in
    let is = get_or-range_with_len 1 count k v (omega arith) in
    (omega arith, omega arith)

pub marked-increasing : (marks : List Bool) → IsStrictlyIncreasing (marked_vids marks)
marked-increasing marks = increases 0 (marked_vids marks) (Rises-filter (λ vid. get_or marks (vid - 1) false) 0 (vids (length marks)) (Rises-range 0 1 (length marks) (omega arith)))

pub marked-contains : (marks : List Bool) (count : ℕ) (P : ℕ → Type 0) → AreMarks marks count P → ((v : ℕ) → P v → (1 ≤ v) × (v ≤ count)) → (v : ℕ) → Contains (marked_vids marks) v ↔ P v
marked-contains marks count P are within v =
    let p : ℕ → Bool = λ vid. get_or marks (vid - 1) false in
    let all = vids (length marks) in (
      λ found.
          let there = vids-contain (length marks) v (All-contains (Contains all) (filter p all) v (All-filter p (Contains all) all (All-contains_itself all)) found) in
          let marked = All-contains (λ vid. p vid ≡ true) (filter p all) v (filter_passes p all) found in
          let long = are.long in
          let one = there.0 in
          let high = there.1 in
          let back : v - 1 + 1 ≡ v = omega arith in
          subst P back ((are.marked (v - 1) (omega arith)).0 marked),
      λ holds.
          let range = within v holds in
          let one = range.0 in
          let high = range.1 in
          let long = are.long in
          let back : v - 1 + 1 ≡ v = omega arith in
          contains-filter p all v ((are.marked (v - 1) (omega arith)).1 (subst P (sym back) holds)) (contains-vids (length marks) v (omega arith) (omega arith)),
    )
