-- So many rids, none of them over a number.
use Rattle.std.proofs.Common.{◌≡◌, ◌≤◌, ◌^◌, ℕ, suc, Bool, true, false, cond, List, [], ◌∷◌, length, get_or, refl, sym, ◌∙◌, ap, subst, inl, inr, arith}
use Rattle.std.specs.Prelude.{filter}
use Rattle.std.specs.List.{All}
use Rattle.std.proofs.lemmas.Bool.{cases_order}
use Rattle.std.proofs.lemmas.List.Elements.{All-nil, All-cons, All-head, All-tail}
use Rattle.ov_member.specs.Lists.{run}
use Rattle.ov_member.specs.Rids.{RiseFrom, AreRids, has, shared}
use Rattle.ov_member.proofs.RunLemmas.{has-run_in, has-run_past}
use Rattle.ov_fetch.proofs.Counted.{filtered_le}
use Rattle.ov_read.specs.Agreement.{IsBorneOut}
use Rattle.ov_read.specs.Counting.{capped}

-- the test holds of each
pub passes_all : {X : Type 0} (p : X → Bool) (xs : List X) → length (filter p xs) ≡ length xs → All (λ x. p x ≡ true) xs
passes_all p [] e = All-nil (λ x. p x ≡ true)
passes_all {X = X} p (x ∷ xs) e = by (p x) refl (filtered_le p xs) (λ same. passes_all p xs same) e
  where
    by : (b : Bool) → p x ≡ b → length (filter p xs) ≤ length xs → (length (filter p xs) ≡ length xs → All (λ y. p y ≡ true) xs)
        → length (cond b (x ∷ filter p xs) (filter p xs)) ≡ suc (length xs) → All (λ y. p y ≡ true) (x ∷ xs)
    by true is le rest same = All-cons (λ y. p y ≡ true) x xs is (rest (omega (arith, same)))
    by false is le rest same = absurd (omega (arith, le, same))

pub all_pass : {X : Type 0} (p : X → Bool) (xs : List X) → All (λ x. p x ≡ true) xs → length (filter p xs) ≡ length xs
all_pass p [] all = refl
all_pass {X = X} p (x ∷ xs) all = by (p x) (All-head (λ y. p y ≡ true) x xs all) (all_pass p xs (All-tail (λ y. p y ≡ true) x xs all))
  where
    by : (b : Bool) → b ≡ true → length (filter p xs) ≡ length xs → length (cond b (x ∷ filter p xs) (filter p xs)) ≡ suc (length xs)
    by true is e = ap suc e
    by false is e = cc

-- rids among the first ones are no greater than the last of these, and the other way round
in_first : (last rid : ℕ) → has (run 1 last) rid ≡ true → rid ≤ last
in_first last rid member =
    elim (cases_order rid (suc last)) [
      | inl e ↦ let out = has-run_past 1 last rid (omega (arith, e)) in absurd cc
      | inr (inl lt) ↦ omega (arith, lt)
      | inr (inr gt) ↦ let out = has-run_past 1 last rid (omega (arith, gt)) in absurd cc
    ]

all_from_first : (last least : ℕ) (rids : List ℕ) → All (λ rid. has (run 1 last) rid ≡ true) rids → All (λ rid. rid ≤ last) rids
all_from_first last least [] all = All-nil (λ rid. rid ≤ last)
all_from_first last least (rid ∷ rids) all =
    All-cons (λ r. r ≤ last) rid rids (in_first last rid (All-head (λ r. has (run 1 last) r ≡ true) rid rids all))
    (all_from_first last least rids (All-tail (λ r. has (run 1 last) r ≡ true) rid rids all))

all_in_first : (last least : ℕ) (rids : List ℕ) → 1 ≤ least → RiseFrom least rids → All (λ rid. rid ≤ last) rids → All (λ rid. has (run 1 last) rid ≡ true) rids
all_in_first last least [] low are all = All-nil (λ rid. has (run 1 last) rid ≡ true)
all_in_first last least (rid ∷ rids) low are all =
    All-cons (λ r. has (run 1 last) r ≡ true) rid rids (has-run_in 1 last rid (omega (arith, low, are.0)) (omega (arith, All-head (λ r. r ≤ last) rid rids all)))
    (all_in_first last (suc rid) rids (omega arith) are.2 (All-tail (λ r. r ≤ last) rid rids all))

-- none is over the greatest rid
pub all_rids : (least : ℕ) (rids : List ℕ) → RiseFrom least rids → All (λ rid. rid ≤ 2 ^ 31) rids
all_rids least [] are = All-nil (λ rid. rid ≤ 2 ^ 31)
all_rids least (rid ∷ rids) are = All-cons (λ r. r ≤ 2 ^ 31) rid rids are.1 (all_rids (suc rid) rids are.2)

both_below : (a b : ℕ) (rids : List ℕ) → All (λ rid. rid ≤ a) rids → All (λ rid. rid ≤ b) rids → (c : ℕ) → ((n : ℕ) → n ≤ a → n ≤ b → n ≤ c) → All (λ rid. rid ≤ c) rids
both_below a b rids all other c h = λ k d low. h (get_or rids k d) (all k d low) (other k d low)

pub to_capped : (last : ℕ) (rids : List ℕ) → AreRids rids → All (λ rid. rid ≤ last) rids → All (λ rid. rid ≤ capped last) rids
to_capped last rids are all = both_below last (2 ^ 31) rids all (all_rids 1 rids are) (capped last) (λ n low high. omega (arith, low, high))

pub from_capped : (last : ℕ) (rids : List ℕ) → All (λ rid. rid ≤ capped last) rids → All (λ rid. rid ≤ last) rids
from_capped last rids all = λ k d low. omega (arith, all k d low)

-- what is_borne_out tests
pub borne_out : (count last : ℕ) (rids first : List ℕ) → AreRids rids → first ≡ run 1 (capped last) → length rids ≡ count → length (shared rids first) ≡ count → IsBorneOut count last rids
borne_out count last rids first are is same both = record {
  count_is = same;
  below =
      from_capped last rids
      (all_from_first (capped last) 1 rids
      (subst (λ (l : List ℕ). All (λ rid. has l rid ≡ true) rids) is (passes_all (has first) rids (both ∙ sym same))));
}

pub all_shared : (count last : ℕ) (rids first : List ℕ) → AreRids rids → first ≡ run 1 (capped last) → IsBorneOut count last rids → length (shared rids first) ≡ count
all_shared count last rids first are is out =
    all_pass (has first) rids
    (subst (λ (l : List ℕ). All (λ rid. has l rid ≡ true) rids) (sym is) (all_in_first (capped last) 1 rids (omega arith) are (to_capped last rids are out.below)))
    ∙ out.count_is
