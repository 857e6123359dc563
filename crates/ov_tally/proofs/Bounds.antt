-- A bound from counts.
use Rattle.std.proofs.Common.{inl, inr, ◌≡◌, ◌<◌, ◌≤◌, ◌+◌, ◌*◌, ◌∷◌, ◌++◌, ◌∙◌, [], ℕ, zero, suc, List, Bool, true, false, cond, refl, sym, ap, ap₂, arith, rules, length, filter, get_or, set, subst, take}
use Rattle.std.specs.Prelude.{ℤ, pos, nat_lt, ◌⊎◌, ◌+ℤ◌, ◌≤ℤ◌}
use Rattle.std.specs.List.{All, AllByRecursion}
use Rattle.std.proofs.Math.IntN.{+ℤ_assoc, +ℤ_comm, +ℤ_idr}
use Rattle.std.proofs.lemmas.Bool.{lt-ltb, ltb-true, ltb-false}
use Rattle.std.proofs.lemmas.List.Elements.{All-set, recursion_from_All}
use Rattle.ov_tally.specs.Counting.{AreNone, AreTimes, AreWithin, IsIn, total, total_to}
use Rattle.ov_tally.specs.Ranks.{is_low, low_times, pair_at, pairs_from, pairs_in, pairs_of}
use Rattle.ov_tally.specs.Running.{sum_of}
use Rattle.ov_tally.specs.Spans.{AreBelow, IsBelow, Spans, places_in, run, times}
use Rattle.ov_tally.specs.declared.first.Pair.{Pair}
use Rattle.ov_tally.proofs.Marks.{none_total}
use Rattle.ov_tally.proofs.Tallies.{pos_sum, spans_below}
use Rattle.ov_tally.proofs.Ties.{all_append, all_map, low_counted, weaken}

pub set_near : (n m : ℕ) (sums : List ℤ) (at : ℕ) (v x : ℤ) → x ≡ get_or sums at (pos 0) → at < length sums → x ≤ℤ (v +ℤ pos m) → v ≤ℤ (x +ℤ pos m) → AreWithin n sums → AreWithin (n + m) (set sums at v)
set_near n m sums at v x is there down up all = All-set (IsIn (n + m)) sums at v (near (subst (IsIn n) (sym is) (all at (pos 0) there))) (λ i e low. wider (get_or sums i e) (all i e low))
  where
    wider : (y : ℤ) → IsIn n y → IsIn (n + m) y
    wider y is = (search (rules, is.0), search (rules, is.1))

    near : IsIn n x → IsIn (n + m) v
    near is = (search (rules, is.0, down), search (rules, is.1, up))

run_more : (first n : ℕ) → run first (suc n) ≡ run first n ++ (first + n) ∷ []
unfolding run
run_more first zero = let e : first ≡ first + 0 = omega arith in ap (λ p. p ∷ []) e
run_more first (suc n) = let e : suc first + n ≡ first + suc n = omega arith in ap (λ l. first ∷ l) (run_more (suc first) n ∙ ap (λ p. run (suc first) n ++ p ∷ []) e)

sum_push : (f : ℕ → ℤ) (xs : List ℕ) (x : ℕ) → sum_of f (xs ++ x ∷ []) ≡ sum_of f xs +ℤ f x
sum_push f [] x = +ℤ_comm (f x) (pos 0)
sum_push f (y ∷ xs) x = ap (λ t. f y +ℤ t) (sum_push f xs x) ∙ sym (+ℤ_assoc (f y) (sum_of f xs) (f x))

low_more : (ts : List ℤ) (ranks : List ℕ) (bound i : ℕ) → low_times ts ranks bound (i + 1) ≡ low_times ts ranks bound i +ℤ cond (nat_lt (get_or ranks i 0) bound) (get_or ts i (pos 0)) (pos 0)
low_more ts ranks bound i = let e : i + 1 ≡ suc i = omega arith in let z : 0 + i ≡ i = omega arith in
    ap (λ n. sum_of f (run 0 n)) e ∙ ap (sum_of f) (run_more 0 i ∙ ap (λ p. run 0 i ++ p ∷ []) z) ∙ sum_push f (run 0 i) i
  where
    f : ℕ → ℤ
    f p = cond (nat_lt (get_or ranks p 0) bound) (get_or ts p (pos 0)) (pos 0)

-- a position more
pub rank_more : (ts : List ℤ) (ranks : List ℕ) (i p rank : ℕ) (t : ℤ) (old new : List ℤ) → rank ≡ get_or ranks i 0 → t ≡ get_or ts i (pos 0)
    → ((p : ℕ) → p < rank → total_to new p ≡ total_to old p) → ((p : ℕ) → rank ≤ p → total_to new p ≡ total_to old p +ℤ t)
    → total_to old p ≡ low_times ts ranks (p + 1) i → total_to new p ≡ low_times ts ranks (p + 1) (i + 1)
rank_more ts ranks i p rank t old new is time low high before = by (nat_lt rank (p + 1)) refl ∙ ap₂ (λ (a b : ℤ). a +ℤ b) before step ∙ sym (low_more ts ranks (p + 1) i)
  where
    step : cond (nat_lt rank (p + 1)) t (pos 0) ≡ cond (nat_lt (get_or ranks i 0) (p + 1)) (get_or ts i (pos 0)) (pos 0)
    step = ap₂ (λ n x. cond (nat_lt n (p + 1)) x (pos 0)) is time

    by : (b : Bool) → nat_lt rank (p + 1) ≡ b → total_to new p ≡ total_to old p +ℤ cond b t (pos 0)
    by true e = let q = ltb-true rank (p + 1) e in high p (omega (arith, q))
    by false e = let q = ltb-false rank (p + 1) e in low p (omega (arith, q)) ∙ sym (+ℤ_idr (total_to old p))

pub none_low : (ts : List ℤ) (ranks : List ℕ) (sums : List ℤ) (p : ℕ) → AreNone sums → total_to sums p ≡ low_times ts ranks (p + 1) 0
unfolding run
none_low ts ranks sums p none = none_total sums p none

-- ---- what is low by counts

same_within : (g h : ℕ → ℤ) (first n : ℕ) → ((p : ℕ) → p < first + n → h p ≡ g p) → sum_of h (run first n) ≡ sum_of g (run first n)
unfolding run
same_within g h first zero same = refl
same_within g h first (suc n) same = ap₂ (λ (a b : ℤ). a +ℤ b) (same first (omega arith)) (same_within g h (suc first) n (λ p low. same p (omega (arith, low))))

low_length : (ts : List ℤ) (ranks keys : List ℕ) (bound : ℕ) (versions : List Spans) → AreTimes (length ranks) versions ts → All (AreBelow (length ranks + 1)) versions
    → low_times ts ranks bound (length ranks) ≡ pos (length (filter (is_low bound) (pairs_of ranks keys versions)))
low_length ts ranks keys bound versions are below =
    same_within (λ p. pos (times versions p * cond (nat_lt (get_or ranks p 0) bound) 1 0)) (λ p. cond (nat_lt (get_or ranks p 0) bound) (get_or ts p (pos 0)) (pos 0)) 0 (length ranks)
    (λ p low. ap (λ t. cond (nat_lt (get_or ranks p 0) bound) t (pos 0)) (are.each p (omega (arith, low))) ∙ by (times versions p) (nat_lt (get_or ranks p 0) bound))
    ∙ sym (pos_sum (λ p. times versions p * cond (nat_lt (get_or ranks p 0) bound) 1 0) (run 0 (length ranks)))
    ∙ ap pos (sym (low_counted ranks keys bound (length ranks) versions below))
  where
    by : (m : ℕ) (b : Bool) → cond b (pos m) (pos 0) ≡ pos (m * cond b 1 0)
    by m true = let e : m ≡ m * 1 = omega arith in ap pos e
    by m false = let e : 0 ≡ m * 0 = omega arith in ap pos e

pairs_low : (ranks keys : List ℕ) (bound count n : ℕ) (versions : List Spans) → ((p : ℕ) → p < count → nat_lt (get_or ranks p 0) bound ≡ true) → AllByRecursion (AreBelow (count + 1)) versions
    → AllByRecursion (λ x. is_low bound x ≡ true) (pairs_from n ranks keys versions)
pairs_low ranks keys bound count n [] low all = tt
pairs_low ranks keys bound count n (v ∷ versions) low all =
    all_append (λ x. is_low bound x ≡ true) (pairs_in n ranks keys v.items) (pairs_from (suc n) ranks keys versions)
    (all_map (λ x. is_low bound x ≡ true) (pair_at n ranks keys) (places_in v.items)
    (weaken (λ p. p < count) (λ p. nat_lt (get_or ranks p 0) bound ≡ true) low (places_in v.items) (spans_below count v.items (recursion_from_All (IsBelow (count + 1)) v.items all.0))))
    (pairs_low ranks keys bound count (suc n) versions low all.1)

filter_whole : (q : Pair → Bool) (xs : List Pair) → AllByRecursion (λ x. q x ≡ true) xs → filter q xs ≡ xs
filter_whole q [] all = refl
filter_whole q (x ∷ xs) all = ap (λ b. cond b (x ∷ filter q xs) (filter q xs)) all.0 ∙ ap (λ l. x ∷ l) (filter_whole q xs all.1)

from_pos : (a b : ℕ) → pos a ≤ℤ pos b → a ≤ b
from_pos a b up = search (rules, up)

pub bound_holds : (ts sums : List ℤ) (ranks : List ℕ) (kinds count bound : ℕ) → All (λ rank. rank < kinds) ranks → ((p : ℕ) → total_to sums p ≡ low_times ts ranks (p + 1) (length ranks))
    → (bound ≡ kinds) ⊎ (pos count ≤ℤ total (take bound sums)) → (keys : List ℕ) (versions : List Spans) → AreTimes (length ranks) versions ts → All (AreBelow (length ranks + 1)) versions
    → count ≤ length (pairs_of ranks keys versions) → count ≤ length (filter (is_low bound) (pairs_of ranks keys versions))
bound_holds ts sums ranks kinds count bound ranked totals (inl is) keys versions are below few =
    rw (filter_whole (is_low bound) (pairs_of ranks keys versions) (pairs_low ranks keys bound (length ranks) 0 versions (λ p low. lt-ltb (get_or ranks p 0) bound (let r = ranked p 0 low in omega (arith, r, is))) (recursion_from_All (AreBelow (length ranks + 1)) versions below))) few
bound_holds ts sums ranks kinds count zero ranked totals (inr enough) keys versions are below few = let none = from_pos count 0 enough in omega (arith, none)
bound_holds ts sums ranks kinds count (suc b) ranked totals (inr enough) keys versions are below few =
    from_pos count (length (filter (is_low (suc b)) (pairs_of ranks keys versions)))
    (subst (λ t. pos count ≤ℤ t) (totals b ∙ ap (λ n. low_times ts ranks n (length ranks)) next ∙ low_length ts ranks keys (suc b) versions are below) enough)
  where
    next : b + 1 ≡ suc b
    next = omega arith
