-- How many rids sets have, and the sets of a partition's segments.
use Rattle.std.proofs.Common.{◌≡◌, ◌<◌, ◌≤◌, ◌^◌, ℕ, suc, ◌+◌, ◌-◌, Bool, true, false, not, cond, ◌||◌, ◌==◌, List, [], ◌∷◌, length, refl, sym, ◌∙◌, ap, inl, inr, arith}
use Rattle.std.specs.Prelude.{MatchOption, Option, None, Some, if◌then◌else◌, is_some}
use Rattle.std.specs.List.{All}
use Rattle.std.proofs.lemmas.Bool.{cases_Bool, cond-true, or_cases, eqb-true}
use Rattle.std.proofs.lemmas.List.{length-append}
use Rattle.std.proofs.lemmas.List.Elements.{All-head, All-tail}
use Rattle.std.proofs.lemmas.List.Sums.{sum_by-cons}
use Rattle.ov_member.specs.Rids.{AreRids, RiseFrom, has, left_out}
use Rattle.ov_member.proofs.RidLemmas.{has-append, has-head}
use Rattle.ov_model.specs.Lists.{joined}
use Rattle.ov_model.specs.Placed.{times}
use Rattle.ov_model.proofs.Counting.{not_listed, times-append}
use Rattle.ov_fetch.proofs.Counted.{filtered_le}
use Rattle.ov_match.specs.Matching.{AreApart, AreSegments}
use Rattle.ov_match.proofs.Counts.{parted, rise_once, shared_turned}
use Rattle.ov_read.specs.Agreement as agreement
use Rattle.ov_read.specs.Agreement.{AreTogether, IsBorneOut, PartAgrees}
use Rattle.ov_optimize.specs.Reading.{AreFilled}

pub or_right : (a b : Bool) → b ≡ true → (a || b) ≡ true
or_right true b e = refl
or_right false b e = e

-- ---- one set within another

none_left : (xs ys : List ℕ) → ((n : ℕ) → has xs n ≡ true → has ys n ≡ true) → left_out xs ys ≡ []
none_left [] ys within = refl
none_left (x ∷ xs) ys within =
    by (has ys x) (within x (has-head x xs)) (none_left xs ys (λ n e. within n (or_right (x == n) (has xs n) e)))
  where
    by : (b : Bool) → b ≡ true → left_out xs ys ≡ [] → (if not b then x ∷ left_out xs ys else left_out xs ys) ≡ []
    by true is rest = rest
    by false is rest = cc

-- where neither has a number twice, it is no longer
pub no_longer : (xs ys : List ℕ) → ((n : ℕ) → times xs n ≤ 1) → ((n : ℕ) → times ys n ≤ 1) → ((n : ℕ) → has xs n ≡ true → has ys n ≡ true) → length xs ≤ length ys
no_longer xs ys once other within =
    omega (arith, parted xs ys, ap length (none_left xs ys within), shared_turned xs ys once other, filtered_le (has xs) ys)

-- what is among rids up to a last one is so too
pub up_to : (rids : List ℕ) (rid last : ℕ) → All (λ r. r ≤ last) rids → has rids rid ≡ true → rid ≤ last
up_to [] rid last all is = absurd cc
up_to (x ∷ rids) rid last all is = elim (or_cases (x == rid) (has rids rid) is) [
  | inl here ↦ omega (arith, eqb-true x rid here, All-head (λ r. r ≤ last) x rids all)
  | inr later ↦ up_to rids rid last (All-tail (λ r. r ≤ last) x rids all) later
]

-- there are no more than the numbers that they may be
pub few_of : (most least : ℕ) (rids : List ℕ) → RiseFrom least rids → ((n : ℕ) → has rids n ≡ true → n ≤ most) → length rids ≤ (most + 1) - least
few_of most least [] rise low = omega arith
few_of most least (rid ∷ rids) rise low =
    omega (
      arith,
      rise.0,
      low rid (has-head rid rids),
      few_of most (suc rid) rids rise.2 (λ n e. low n (or_right (rid == n) (has rids n) e)),
    )

-- ---- the sets of segments

one_most : (b : Bool) → cond b 1 0 ≤ 1
one_most true = omega arith
one_most false = omega arith

times_one : (rids : List ℕ) (n : ℕ) → AreRids rids → times rids n ≤ cond (has rids n) 1 0
times_one rids n are = elim (cases_Bool (has rids n)) [
  | inl there ↦ omega (arith, rise_once 1 rids n are, cond-true {A = ℕ} (has rids n) 1 0 there)
  | inr none ↦ omega (arith, not_listed rids n none)
]

times_joined : (sets : List (List ℕ)) (n : ℕ) → All AreRids sets → times (joined sets) n ≤ agreement.times sets n
times_joined [] n are = omega arith
times_joined (rids ∷ sets) n are =
    omega (
      arith,
      times-append rids (joined sets) n,
      times_one rids n (All-head AreRids rids sets are),
      times_joined sets n (All-tail AreRids rids sets are),
      sum_by-cons (λ (r : List ℕ). cond (has r n) 1 0) rids sets,
    )

pub apart : (sets : List (List ℕ)) (all : List ℕ) → All AreRids sets → AreTogether sets all → AreApart sets
apart sets all are together n = omega (arith, times_joined sets n are, together.each n, one_most (has all n))

among : (sets : List (List ℕ)) (n : ℕ) → has (joined sets) n ≡ true → 1 ≤ agreement.times sets n
among [] n is = absurd cc
among (rids ∷ sets) n is =
    let sum = sum_by-cons (λ (r : List ℕ). cond (has r n) 1 0) rids sets in
    elim (or_cases (has rids n) (has (joined sets) n) (sym (has-append rids (joined sets) n) ∙ is)) [
      | inl here ↦ omega (arith, sum, cond-true {A = ℕ} (has rids n) 1 0 here)
      | inr later ↦ omega (arith, sum, among sets n later)
    ]

is_there : (b : Bool) → 1 ≤ cond b 1 0 → b ≡ true
is_there true some = refl
is_there false some = absurd (omega (arith, some))

as_long : (sets : List (List ℕ)) → AreFilled sets → length sets ≤ length (joined sets)
as_long [] filled = omega arith
as_long (rids ∷ sets) filled =
    omega (
      arith,
      length-append rids (joined sets),
      All-head (λ (r : List ℕ). 1 ≤ length r) rids sets filled,
      as_long sets (All-tail (λ (r : List ℕ). 1 ≤ length r) rids sets filled),
    )

-- there are no more of them than rids
few_sets : (sets : List (List ℕ)) (all : List ℕ) → All AreRids sets → AreFilled sets → AreTogether sets all → length sets ≤ length all
few_sets sets all are filled together =
    omega (
      arith,
      as_long sets filled,
      no_longer (joined sets) all (apart sets all are together) (λ n. rise_once 1 all n together.set)
          (λ n is. is_there (has all n) (omega (arith, among sets n is, together.each n))),
    )

pub sound_sets : (count last : ℕ) (sets : List (List ℕ)) → count < 2 ^ 32 → All AreRids sets → AreFilled sets → PartAgrees count last sets → AreSegments sets
sound_sets count last sets low are filled agrees = record {
  few = omega (arith, few_sets sets agrees.all are filled agrees.together, agrees.borne_out.count_is, low);
  apart = apart sets agrees.all are agrees.together;
}

-- what stands together where something was found
pub together_agrees : (found : Option (List ℕ)) (count last : ℕ) (sets : List (List ℕ))
    → MatchOption found (PartAgrees count last sets → ⊥) (λ all. AreTogether sets all × IsBorneOut count last all) → is_some found ≡ true → PartAgrees count last sets
together_agrees None count last sets h some = cc
together_agrees (Some all) count last sets h some = record { all = all; together = h.0; borne_out = h.1 }
