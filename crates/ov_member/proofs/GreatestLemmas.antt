-- The last edge is one past the greatest rid.
use Rattle.std.proofs.Common.{◌≡◌, ℕ, zero, suc, ◌+◌, ◌-◌, ◌<◌, ◌≤◌, false, List, [], ◌∷◌, length, All, refl, sym, ◌∙◌, ap, arith}
use Rattle.std.proofs.Math.Bool.{or-true}
use Rattle.std.proofs.lemmas.List.Elements.{All-append, All-cons, All-nil}
use Rattle.std.specs.Prelude.{Some, slice_get}
use Rattle.ov_member.specs.Edges.{Ascend, ends, rids_between}
use Rattle.ov_member.specs.Lists.{run}
use Rattle.ov_member.specs.Rids.{IsGreatest, has}
use Rattle.ov_member.proofs.RidLemmas.{has-append}
use Rattle.ov_member.proofs.RunLemmas.{has-run_in}

abbrev pub IsLast : List ℕ → ℕ → Type 0
IsLast [] x = ⊥
IsLast (y ∷ []) x = x ≡ y
IsLast (y ∷ z ∷ ys) x = IsLast (z ∷ ys) x

some_same : (a b : ℕ) → Some a ≡ Some b → b ≡ a
some_same a b e = cc

pub last-is : (xs : List ℕ) (x : ℕ) → slice_get xs (length xs - 1) ≡ Some x → IsLast xs x
last-is [] x e = absurd cc
last-is (y ∷ []) x e = some_same y x e
last-is (y ∷ z ∷ ys) x e =
    let there : length (y ∷ z ∷ ys) - 1 ≡ suc (length ys) = omega arith in
    let before : length (z ∷ ys) - 1 ≡ length ys = omega arith in
    last-is (z ∷ ys) x (ap (slice_get (z ∷ ys)) before ∙ sym (ap (slice_get (y ∷ z ∷ ys)) there) ∙ e)

pub above-low : (low : ℕ) (edges : List ℕ) (x : ℕ) → Ascend low edges → IsLast edges x → low < x
above-low low [] x h is = absurd is
above-low low (edge ∷ []) x h is = omega (arith, h.0, is)
above-low low (edge ∷ e ∷ es) x h is = omega (arith, h.0, above-low edge (e ∷ es) x h.2 is)

run-up_to : (first count most : ℕ) → first + count ≤ suc most → All (λ other. other ≤ most) (run first count)
unfolding run
run-up_to first zero most le = All-nil (λ other. other ≤ most)
run-up_to first (suc count) most le = All-cons (λ other. other ≤ most) first (run (suc first) count) (omega arith) (run-up_to (suc first) count most (omega arith))

pub greatest-is : (low : ℕ) (edges : List ℕ) (past : ℕ) → Ascend low edges → ends false edges ≡ false → IsLast edges past → IsGreatest (rids_between edges) (past - 1)
greatest-is low [] past h e is = absurd is
greatest-is low (first ∷ []) past h e is = absurd cc
greatest-is low (first ∷ p ∷ []) past h e is = record {
  there = has-append (run first (p - first)) [] (past - 1) ∙ rw (has-run_in first (p - first) (past - 1) (omega (arith, is, h.2.0)) (omega (arith, is, h.2.0))) refl;
  above = All-append (λ other. other ≤ past - 1) (run first (p - first)) [] (run-up_to first (p - first) (past - 1) (omega (arith, is, h.2.0))) (All-nil (λ other. other ≤ past - 1));
}
greatest-is low (first ∷ p ∷ next ∷ edges) past h e is =
    let rest : IsGreatest (rids_between (next ∷ edges)) (past - 1) = greatest-is p (next ∷ edges) past h.2.2 e is in
    let later : p < past = above-low p (next ∷ edges) past h.2.2 is in
    record {
      there = has-append (run first (p - first)) (rids_between (next ∷ edges)) (past - 1) ∙ rw (rest.there) (or-true (has (run first (p - first)) (past - 1)));
      above = All-append (λ other. other ≤ past - 1) (run first (p - first)) (rids_between (next ∷ edges)) (run-up_to first (p - first) (past - 1) (omega (arith, h.2.0))) rest.above;
    }
