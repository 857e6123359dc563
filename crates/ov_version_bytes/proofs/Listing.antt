-- The list of a version: sorted rids are a set, and how many bytes its list has.
use Rattle.std.proofs.Common.{◌≡◌, ◌≤◌, ◌<◌, ◌+◌, ◌*◌, ◌^◌, ℕ, suc, List, [], ◌∷◌, length, refl, sym, ◌∙◌, ap, subst, inl, inr, arith, length-append}
use Rattle.std.specs.Prelude.{◌==◌, Bool, true, false, nat_le, nat_eq, if◌then◌else◌}
use Rattle.std.specs.List.{All, AllByRecursion, IsDistinct}
use Rattle.std.specs.List.Sorted.{IsPermutation}
use Rattle.std.proofs.lemmas.Bool.{ne_eqb}
use Rattle.std.proofs.lemmas.Cmp.{nat_eq_equiv}
use Rattle.std.proofs.lemmas.List.Elements.{All-nil, All-cons}
use Rattle.std.proofs.lemmas.List.Sorted.{IsPermutation-sym, All-permutation}
use Rattle.std.proofs.lemmas.Map.Keys.{IsDistinct-IsPermutation}
use Rattle.ov_model.specs.Book.{Row}
use Rattle.ov_model.specs.Lists.{IsIn, Rises}
use Rattle.ov_member.specs.Lists.{Range, range_bytes, bytes_of, in_front, ranges_of}
use Rattle.ov_member.specs.Rids.{AreRids, RiseFrom}
use Rattle.ov_catalog.specs.Shown.{put_by, sorted_by}
use Rattle.ov_catalog.proofs.Members.{all_at, of_sorted}
use Rattle.ov_catalog.proofs.Rising.{by, less_of}
use Rattle.ov_version_bytes.specs.Written.{AreGiven, list_written}
use Rattle.ov_version_bytes.proofs.Sorting.{below_at, all_same, sorted_ascends}

rise_from : (least : ℕ) (xs : List ℕ) → ((x : ℕ) → IsIn xs x → (least ≤ x) × (x ≤ 2 ^ 31)) → Rises (by (λ x. x)) xs → RiseFrom least xs
rise_from least [] each rises = tt
rise_from least (x ∷ xs) each rises = (
  (each x (inl refl)).0,
  (each x (inl refl)).1,
  rise_from (suc x) xs (λ y is. (less_of x y (below_at (by (λ z. z)) x xs y rises.0 is), (each y (inr is)).1)) rises.1,
)

pub sorted_set : (rids : List ℕ) → IsDistinct nat_eq rids → All (λ rid. 1 ≤ rid) rids → All (λ rid. rid ≤ 2 ^ 31) rids → AreRids (sorted_by (λ rid. rid) rids)
sorted_set rids once some low =
    rise_from 1 (sorted_by (λ rid. rid) rids)
    (λ x is.
    let there : IsIn rids x = of_sorted (λ rid. rid) rids x is
    in (all_at (λ rid. 1 ≤ rid) rids x some there, all_at (λ rid. rid ≤ 2 ^ 31) rids x low there))
    (sorted_ascends (λ rid. rid) rids (subst (λ xs. IsDistinct nat_eq xs) (sym (all_same rids)) once))

apart_rise : (m least : ℕ) (xs : List ℕ) → m + 1 ≤ least → RiseFrom least xs → AllByRecursion (λ x. nat_eq m x ≡ false) xs
apart_rise m least [] below rise = tt
apart_rise m least (x ∷ xs) below rise =
    (ne_eqb m x (λ e. omega (arith, e, below, rise.0)), apart_rise m (suc x) xs (omega (arith, below, rise.0)) rise.2)

rise_once : (least : ℕ) (xs : List ℕ) → RiseFrom least xs → IsDistinct nat_eq xs
unfolding IsDistinct
rise_once least [] rise = tt
rise_once least (x ∷ xs) rise = (apart_rise x (suc x) xs (omega arith) rise.2, rise_once (suc x) xs rise.2)

rise_low : (least : ℕ) (xs : List ℕ) → RiseFrom least xs → All (λ rid. rid ≤ 2 ^ 31) xs
rise_low least [] rise = All-nil (λ rid. rid ≤ 2 ^ 31)
rise_low least (x ∷ xs) rise = All-cons (λ rid. rid ≤ 2 ^ 31) x xs rise.1 (rise_low (suc x) xs rise.2)

rise_some : (least : ℕ) (xs : List ℕ) → 1 ≤ least → RiseFrom least xs → All (λ rid. 1 ≤ rid) xs
rise_some least [] from rise = All-nil (λ rid. 1 ≤ rid)
rise_some least (x ∷ xs) from rise = All-cons (λ rid. 1 ≤ rid) x xs (omega (arith, from, rise.0)) (rise_some (suc x) xs (omega arith) rise.2)

-- and what can be sorted to a set is given once
pub given_of_set : (rids sorted : List ℕ) (rows : List Row) → length rids ≡ length rows → IsPermutation rids sorted → AreRids sorted → AreGiven rids rows
given_of_set rids sorted rows same moved are =
    let back : IsPermutation sorted rids = IsPermutation-sym rids sorted moved
    in record {
      as_many = same;
      once = IsDistinct-IsPermutation nat_eq nat_eq_equiv.symm sorted rids back (rise_once 1 sorted are);
      some = All-permutation (λ rid. 1 ≤ rid) sorted rids back (rise_some 1 sorted (omega arith) are);
      low = All-permutation (λ rid. rid ≤ 2 ^ 31) sorted rids back (rise_low 1 sorted are);
    }

-- ---- how long it is

bytes_long : (ranges : List Range) → length (bytes_of ranges) ≡ 8 * length ranges
bytes_long [] = refl
bytes_long (range ∷ ranges) = omega (arith, length-append (range_bytes range) (bytes_of ranges), bytes_long ranges)

front_long : (rid : ℕ) (ranges : List Range) → (1 ≤ length (in_front rid ranges)) × (length (in_front rid ranges) ≤ 1 + length ranges)
front_long rid [] = (omega arith, omega arith)
front_long rid (range ∷ ranges) = at (range.first == suc rid)
  where
    at : (b : Bool) → let l = length (if b then record { first = rid; count = suc range.count } ∷ ranges else record { first = rid; count = 1 } ∷ range ∷ ranges)
        in (1 ≤ l) × (l ≤ 1 + length (range ∷ ranges))
    at true = (omega arith, omega arith)
    at false = (omega arith, omega arith)

ranges_few : (rids : List ℕ) → length (ranges_of rids) ≤ length rids
ranges_few [] = omega arith
ranges_few (rid ∷ rids) = omega (arith, (front_long rid (ranges_of rids)).1, ranges_few rids)

ranges_some : (rids : List ℕ) → 0 < length rids → 0 < length (ranges_of rids)
ranges_some [] some = absurd (omega (arith, some))
ranges_some (rid ∷ rids) some = (front_long rid (ranges_of rids)).0

put_long : {X : Type 0} (key : X → ℕ) (x : X) (xs : List X) → length (put_by key x xs) ≡ suc (length xs)
put_long key x [] = refl
put_long {X} key x (y ∷ ys) = at (nat_le (key x) (key y)) (put_long key x ys)
  where
    at : (b : Bool) → length (put_by key x ys) ≡ suc (length ys) → length (if b then x ∷ y ∷ ys else y ∷ put_by key x ys) ≡ suc (suc (length ys))
    at true rest = refl
    at false rest = ap suc rest

pub sorted_long : {X : Type 0} (key : X → ℕ) (xs : List X) → length (sorted_by key xs) ≡ length xs
sorted_long key [] = refl
sorted_long key (x ∷ xs) = put_long key x (sorted_by key xs) ∙ ap suc (sorted_long key xs)

-- ranges of eight bytes, at most as many as rids, and none exactly where there are no rids
pub record IsSized (bytes : List ℕ) (count : ℕ) : Type 0 where
  pub ranges : ℕ
  pub size : length bytes ≡ 8 * ranges
  pub few : ranges ≤ count
  pub some : 0 < count → 0 < ranges

pub list_sized : (rids : List ℕ) → IsSized (list_written rids) (length rids)
list_sized rids =
    let sorted : List ℕ = sorted_by (λ rid. rid) rids
    in let long : length sorted ≡ length rids = sorted_long (λ rid. rid) rids
    in record {
      ranges = length (ranges_of sorted);
      size = bytes_long (ranges_of sorted);
      few = omega (arith, ranges_few sorted, long);
      some = λ more. ranges_some sorted (omega (arith, more, long));
    }
