-- Rids of which none repeats, in another order.
use Rattle.std.proofs.Common.{◌≡◌, ◌≤◌, ◌<◌, ◌+◌, ◌==◌, ℕ, suc, List, [], ◌∷◌, length, refl, sym, ◌∙◌, ap, inl, inr, arith}
use Rattle.std.specs.List.{sum_by}
use Rattle.std.specs.List.Sorted.{IsPermutation}
use Rattle.std.proofs.lemmas.Bool.{cases_Bool, eqb-true}
use Rattle.std.proofs.lemmas.List.Sorted.{sum_by-IsPermutation}
use Rattle.std.proofs.lemmas.List.Sums.{sum_by-cons}
use Rattle.ov_model.specs.Lists.{IsIn}
use Rattle.ov_model.specs.Placed.{times}
use Rattle.ov_model.proofs.Counting.{one_if, one_other}
use Rattle.ov_member.specs.Rids.{RiseFrom}
use Rattle.law_commits.specs.Agreeing.{AreRids}
use Rattle.law_commits.proofs.Times.{in_times, times_in}

-- ---- in another order

times_sum : (xs : List ℕ) (n : ℕ) → times xs n ≡ sum_by (λ v. one_if (v == n)) xs
times_sum [] n = refl
times_sum (x ∷ xs) n = ap (λ m. one_if (x == n) + m) (times_sum xs n) ∙ sym (sum_by-cons (λ v. one_if (v == n)) x xs)

times_moved : (xs ys : List ℕ) (n : ℕ) → IsPermutation xs ys → times ys n ≡ times xs n
times_moved xs ys n moved = times_sum ys n ∙ (sum_by-IsPermutation (λ v. one_if (v == n)) xs ys moved ∙ sym (times_sum xs n))

pub rids_moved : (most : ℕ) (xs ys : List ℕ) → IsPermutation xs ys → AreRids (length xs) most xs → AreRids (length ys) most ys
rids_moved most xs ys moved are = record {
  all = refl;
  once = λ rid. omega (arith, times_moved xs ys rid moved, are.once rid);
  from_one = λ rid is. are.from_one rid (back rid is);
  there = λ rid is. are.there rid (back rid is);
}
  where
    back : (rid : ℕ) → IsIn ys rid → IsIn xs rid
    back rid is = times_in xs rid (omega (arith, times_moved xs ys rid moved, in_times ys rid is))

-- ---- a set of rids

risen_in : (least : ℕ) (rids : List ℕ) (rid : ℕ) → RiseFrom least rids → IsIn rids rid → least ≤ rid
risen_in least [] rid up is = absurd is
risen_in least (x ∷ xs) rid up (inl same) = omega (arith, same, up.0)
risen_in least (x ∷ xs) rid up (inr later) = omega (arith, up.0, risen_in (suc x) xs rid up.2 later)

none_below : (least : ℕ) (rids : List ℕ) (rid : ℕ) → RiseFrom least rids → rid < least → times rids rid ≡ 0
none_below least [] rid up low = refl
none_below least (x ∷ xs) rid up low = omega (arith, one_other x rid (λ e. omega (arith, e, up.0, low)), none_below (suc x) xs rid up.2 (omega (arith, up.0, low)))

risen_once : (least : ℕ) (rids : List ℕ) (rid : ℕ) → RiseFrom least rids → times rids rid ≤ 1
risen_once least [] rid up = omega arith
risen_once least (x ∷ xs) rid up =
    elim (cases_Bool (x == rid)) [
      | inl same ↦ omega (arith, ap one_if same, none_below (suc x) xs rid up.2 (omega (arith, eqb-true x rid same)))
      | inr other ↦ omega (arith, ap one_if other, risen_once (suc x) xs rid up.2)
    ]

pub set_is : (most : ℕ) (rids : List ℕ) → RiseFrom 1 rids → ((rid : ℕ) → IsIn rids rid → rid ≤ most) → AreRids (length rids) most rids
set_is most rids up low = record { all = refl; once = λ rid. risen_once 1 rids rid up; from_one = λ rid is. risen_in 1 rids rid up is; there = low }
