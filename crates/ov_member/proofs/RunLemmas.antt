-- Successive numbers.
use Rattle.std.proofs.Common.{◌≡◌, ℕ, zero, suc, ◌+◌, ◌<◌, ◌≤◌, ◌^◌, true, false, List, [], ◌∷◌, ◌++◌, length, refl, ap, ◌∙◌, inl, inr, arith}
use Rattle.std.proofs.lemmas.Bool.{cases_eq, eq-eqb}
use Rattle.ov_member.specs.Rids.{RiseFrom, has}
use Rattle.ov_member.specs.Lists.{run}
use Rattle.ov_member.proofs.RidLemmas.{has-tail, after}

pub length-run : (first count : ℕ) → length (run first count) ≡ count
unfolding run
length-run first zero = refl
length-run first (suc count) = ap suc (length-run (suc first) count)

pub has-run_in : (first count n : ℕ) → first ≤ n → n < first + count → has (run first count) n ≡ true
unfolding run
has-run_in first zero n le lt = absurd (omega arith)
has-run_in first (suc count) n le lt =
    elim (cases_eq first n) [
      | inl e ↦ rw (eq-eqb first n e) refl
      | inr ne ↦ has-tail first (run (suc first) count) n ne ∙ has-run_in (suc first) count n (omega arith) (omega arith)
    ]

pub has-run_below : (first count n : ℕ) → n < first → has (run first count) n ≡ false
unfolding run
has-run_below first zero n lt = refl
has-run_below first (suc count) n lt = has-tail first (run (suc first) count) n (λ e. omega arith) ∙ has-run_below (suc first) count n (omega arith)

pub has-run_past : (first count n : ℕ) → first + count ≤ n → has (run first count) n ≡ false
unfolding run
has-run_past first zero n le = refl
has-run_past first (suc count) n le = has-tail first (run (suc first) count) n (λ e. omega arith) ∙ has-run_past (suc first) count n (omega arith)

pub RiseFrom-run : (first count : ℕ) (rids : List ℕ) → first + count ≤ 2 ^ 31 + 1 → RiseFrom (first + count) rids → RiseFrom first (run first count ++ rids)
unfolding run
RiseFrom-run first zero rids le h = let e : first + 0 ≡ first = omega arith in rw e at h
RiseFrom-run first (suc count) rids le h =
    let e : first + suc count ≡ suc first + count = omega arith in
    (omega arith, omega arith, RiseFrom-run (suc first) count rids (omega arith) (rw e at h))

-- one more at the end
pub run-more : (first count : ℕ) → run first (suc count) ≡ run first count ++ (first + count) ∷ []
unfolding run
run-more first zero = let e : first + 0 ≡ first = omega arith in rw e refl
run-more first (suc count) =
    let e : first + suc count ≡ suc first + count = omega arith in
    rw e (ap (λ (xs : List ℕ). first ∷ xs) (run-more (suc first) count))

-- what follows a run that is not empty may begin right behind it
pub after-run : (least first count : ℕ) (rids : List ℕ) → 0 < count → after least (run first count ++ rids) ≡ after (first + count) rids
unfolding run
after-run least first zero rids lt = absurd (omega arith)
after-run least first (suc zero) rids lt = let e : first + 1 ≡ suc first = omega arith in rw e refl
after-run least first (suc (suc count)) rids lt =
    let e : first + suc (suc count) ≡ suc first + suc count = omega arith in
    rw e (after-run (suc first) (suc first) (suc count) rids (omega arith))
