-- Rids 1, 2, 3 and so on.
use Rattle.std.proofs.Common.{◌≡◌, ◌≤◌, ◌+◌, ◌^◌, ℕ, zero, suc, List, [], ◌∷◌, ◌++◌, length, refl, ◌∙◌, ap, inl, inr, arith}
use Rattle.std.specs.Prelude.{nat_eq, false}
use Rattle.std.specs.List.{AllByRecursion, IsDistinct}
use Rattle.std.proofs.lemmas.Bool.{ne_eqb}
use Rattle.ov_model.specs.Book.{Row}
use Rattle.ov_model.specs.Lists.{IsIn}
use Rattle.ov_model.specs.Records.{counted}
use Rattle.ov_version_bytes.specs.Written.{AreGiven}
use Rattle.ov_version_bytes.proofs.Sorting.{all_from}

pub counted_more : (n count : ℕ) → counted n (count + 1) ≡ counted n count ++ (n + count) ∷ []
counted_more n zero = ap (λ m. m ∷ []) (omega arith)
counted_more n (suc count) =
    let one : suc count + 1 ≡ suc (count + 1) = omega arith
    in ap (counted n) one ∙ ap (λ ns. n ∷ ns) (counted_more (n + 1) count ∙ ap (λ m. counted (n + 1) count ++ m ∷ []) (omega arith))

pub counted_long : (n count : ℕ) → length (counted n count) ≡ count
counted_long n zero = refl
counted_long n (suc count) = ap suc (counted_long (n + 1) count)

counted_in : (n count x : ℕ) → IsIn (counted n count) x → (n ≤ x) × (x + 1 ≤ n + count)
counted_in n zero x is = absurd is
counted_in n (suc count) x (inl same) = (omega (arith, same), omega (arith, same))
counted_in n (suc count) x (inr later) = let there = counted_in (n + 1) count x later in (omega (arith, there.0), omega (arith, there.1))

apart_above : (m n count : ℕ) → m + 1 ≤ n → AllByRecursion (λ x. nat_eq m x ≡ false) (counted n count)
apart_above m n zero below = tt
apart_above m n (suc count) below = (ne_eqb m n (λ e. omega (arith, e, below)), apart_above m (n + 1) count (omega (arith, below)))

counted_once : (n count : ℕ) → IsDistinct nat_eq (counted n count)
unfolding IsDistinct
counted_once n zero = tt
counted_once n (suc count) = (apart_above n (n + 1) count (omega arith), counted_once (n + 1) count)

pub counted_given : (rows : List Row) → length rows ≤ 1000000 → AreGiven (counted 1 (length rows)) rows
counted_given rows few = record {
  as_many = counted_long 1 (length rows);
  once = counted_once 1 (length rows);
  some = all_from (λ rid. 1 ≤ rid) (counted 1 (length rows)) (λ x is. (counted_in 1 (length rows) x is).0);
  low = all_from (λ rid. rid ≤ 2 ^ 31) (counted 1 (length rows)) (λ x is. omega (arith, (counted_in 1 (length rows) x is).1, few));
}
