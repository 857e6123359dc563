-- What is counted of ranges, and their positions.
use Rattle.std.proofs.Common.{◌≡◌, ◌<◌, ◌≤◌, ◌+◌, ◌-◌, ◌*◌, ◌∷◌, ◌++◌, ◌∙◌, [], ℕ, zero, suc, List, Bool, true, false, cond, refl, sym, ap, ap₂, arith, replicate, subst}
use Rattle.std.specs.Prelude.{ℤ, pos, nat_abs, nat_lt, ◌+ℤ◌, ◌*ℤ◌, ◌==◌, ◌||◌}
use Rattle.std.specs.List.{All, AllByRecursion, count_by, flat_map, sum_by}
use Rattle.std.specs.List.Sorted.{IsPermutation}
use Rattle.std.proofs.Math.IntN.{+ℤ_assoc, +ℤ_comm, suc_ℤ-*ℤ, zero-*ℤ}
use Rattle.std.proofs.lemmas.Bool.{eqb-true, eq-eqb, ltb-true, ltb-false, ne_eqb, eqb-false}
use Rattle.std.proofs.lemmas.List.Elements.{recursion_from_All}
use Rattle.std.proofs.lemmas.List.Sorted.{IsPermutation-append_right, IsPermutation-cons, IsPermutation-middle, IsPermutation-refl, IsPermutation-trans}
use Rattle.std.proofs.lemmas.List.Sums.{sum_by-append, sum_by-cons}
use Rattle.ov_tally.specs.Running.{sum_of}
use Rattle.ov_tally.specs.Spans.{AreApart, AreApartFrom, AreBelow, IsBelow, Spans, covers, has, how_often, in_span, places_in, places_of, run, times}
use Rattle.ov_tally.specs.declared.span.Span.{Span}

-- one more place
pub often_cons : (q p : ℕ) (places : List ℕ) → how_often (q ∷ places) p ≡ cond (q == p) 1 0 + how_often places p
often_cons q p places = sum_by-cons (λ r. cond (r == p) 1 0) q places

often_here : (p : ℕ) (places : List ℕ) → how_often (p ∷ places) p ≡ 1 + how_often places p
often_here p places = often_cons p p places ∙ ap (λ b. cond b 1 0 + how_often places p) (eq-eqb p p refl)

often_else : (q p : ℕ) (places : List ℕ) → (q ≡ p → ⊥) → how_often (q ∷ places) p ≡ how_often places p
often_else q p places apart = often_cons q p places ∙ ap (λ b. cond b 1 0 + how_often places p) (ne_eqb q p apart) ∙ omega arith

often_append : (as_ bs : List ℕ) (p : ℕ) → how_often (as_ ++ bs) p ≡ how_often as_ p + how_often bs p
often_append as_ bs p = sum_by-append (λ r. cond (r == p) 1 0) as_ bs

-- of successive numbers each is there once
none_below : (first n p : ℕ) → p < first → how_often (run first n) p ≡ 0
unfolding run
none_below first zero p low = refl
none_below first (suc n) p low = often_else first p (run (suc first) n) (λ e. omega (arith, low, e)) ∙ none_below (suc first) n p (omega (arith, low))

none_above : (first n p : ℕ) → first + n ≤ p → how_often (run first n) p ≡ 0
unfolding run
none_above first zero p high = refl
none_above first (suc n) p high = often_else first p (run (suc first) n) (λ e. omega (arith, high, e)) ∙ none_above (suc first) n p (omega (arith, high))

one_inside : (first n p : ℕ) → first ≤ p → p < first + n → how_often (run first n) p ≡ 1
unfolding run
one_inside first zero p low high = absurd (omega (arith, low, high))
one_inside first (suc n) p low high = by (first == p) refl (one_inside (suc first) n p)
  where
    by : (b : Bool) → (first == p) ≡ b → (suc first ≤ p → p < suc first + n → how_often (run (suc first) n) p ≡ 1) → how_often (first ∷ run (suc first) n) p ≡ 1
    by true e rest = let is : first ≡ p = eqb-true first p e in often_cons first p (run (suc first) n) ∙ ap₂ (λ b m. cond b 1 0 + m) e (none_below (suc first) n p (omega (arith, is)))
    by false e rest = often_else first p (run (suc first) n) (eqb-false first p e) ∙ rest (let apart = eqb-false first p e in omega (arith, low, apart)) (omega (arith, high))

in_range : (s : Span) (p : ℕ) → in_span p s ≡ how_often (run s.first (s.past - s.first)) p
in_range s p = by (nat_lt p s.first) (nat_lt p s.past) refl refl
  where
    by : (b c : Bool) → nat_lt p s.first ≡ b → nat_lt p s.past ≡ c → cond b 0 (cond c 1 0) ≡ how_often (run s.first (s.past - s.first)) p
    by true c before within = sym (none_below s.first (s.past - s.first) p (ltb-true p s.first before))
    by false true before within = let low = ltb-false p s.first before in let high = ltb-true p s.past within in sym (one_inside s.first (s.past - s.first) p low (omega (arith, low, high)))
    by false false before within = let low = ltb-false p s.first before in let high = ltb-false p s.past within in sym (none_above s.first (s.past - s.first) p (omega (arith, low, high)))

pub covers_often : (spans : List Span) (p : ℕ) → covers spans p ≡ how_often (places_in spans) p
covers_often [] p = refl
covers_often (s ∷ spans) p =
    sum_by-cons (in_span p) s spans ∙ ap₂ (λ m n. m + n) (in_range s p) (covers_often spans p) ∙ sym (often_append (run s.first (s.past - s.first)) (places_in spans) p)

pub times_often : (versions : List Spans) (p : ℕ) → times versions p ≡ how_often (places_of versions) p
times_often [] p = refl
times_often (v ∷ versions) p =
    sum_by-cons (λ spans. covers spans.items p) v versions ∙ ap₂ (λ m n. m + n) (covers_often v.items p) (times_often versions p) ∙ sym (often_append (places_in v.items) (places_of versions) p)

-- ---- ranges that are apart

apart_low : (least : ℕ) (spans : List Span) (p : ℕ) → AreApartFrom least spans → p < least → covers spans p ≡ 0
apart_low least [] p apart low = refl
apart_low least (s ∷ spans) p apart low =
    sum_by-cons (in_span p) s spans
    ∙ ap₂ (λ m n. m + n) (in_range s p ∙ none_below s.first (s.past - s.first) p (let a = apart.0 in omega (arith, low, a))) (apart_low s.past spans p apart.2 (let a = apart.0 in let b = apart.1 in omega (arith, low, a, b)))

pub apart_once : (least : ℕ) (spans : List Span) (p : ℕ) → AreApartFrom least spans → covers spans p ≤ 1
apart_once least [] p apart = omega arith
apart_once least (s ∷ spans) p apart = rw (sum_by-cons (in_span p) s spans) (by (nat_lt p s.first) (nat_lt p s.past) refl (apart_once s.past spans p apart.2))
  where
    by : (b c : Bool) → nat_lt p s.past ≡ c → covers spans p ≤ 1 → cond b 0 (cond c 1 0) + covers spans p ≤ 1
    by true c within rest = omega (arith, rest)
    by false true within rest = let none = apart_low s.past spans p apart.2 (ltb-true p s.past within) in omega (arith, none)
    by false false within rest = omega (arith, rest)

has_often : (places : List ℕ) (p : ℕ) → how_often places p ≤ 1 → how_often places p ≡ cond (has places p) 1 0
has_often [] p few = refl
has_often (q ∷ places) p few = by (q == p) refl (has_often places p)
  where
    by : (b : Bool) → (q == p) ≡ b → (how_often places p ≤ 1 → how_often places p ≡ cond (has places p) 1 0) → how_often (q ∷ places) p ≡ cond (b || has places p) 1 0
    by true e rest = let m = often_cons q p places ∙ ap (λ b. cond b 1 0 + how_often places p) e in omega (arith, few, m)
    by false e rest = let m = often_else q p places (eqb-false q p e) in m ∙ rest (omega (arith, few, m))

pub apart_has : (spans : List Span) (p : ℕ) → AreApart spans → covers spans p ≡ cond (has (places_in spans) p) 1 0
apart_has spans p apart = let few = apart_once 0 spans p apart in let is = covers_often spans p in is ∙ has_often (places_in spans) p (omega (arith, few, is))

pub apart_versions : (versions : List Spans) (p : ℕ) → AllByRecursion (λ spans. AreApart spans.items) versions → times versions p ≡ count_by (λ spans. has (places_in spans.items) p) versions
apart_versions [] p apart = refl
apart_versions (v ∷ versions) p apart =
    sum_by-cons (λ spans. covers spans.items p) v versions ∙ ap₂ (λ m n. m + n) (apart_has v.items p apart.0) (apart_versions versions p apart.1)
    ∙ sym (sum_by-cons (λ (spans : Spans). cond (has (places_in spans.items) p) 1 0) v versions)

-- ---- sums

same_sum : (g h : ℕ → ℤ) (first n : ℕ) → ((p : ℕ) → first ≤ p → h p ≡ g p) → sum_of h (run first n) ≡ sum_of g (run first n)
unfolding run
same_sum g h first zero same = refl
same_sum g h first (suc n) same = ap₂ (λ (a b : ℤ). a +ℤ b) (same first (omega arith)) (same_sum g h (suc first) n (λ p low. same p (omega (arith, low))))

-- where one of the numbers gives more
raised_sum : (g h : ℕ → ℤ) (q : ℕ) (v : ℤ) (first n : ℕ) → first ≤ q → q < first + n → ((p : ℕ) → (q ≡ p → ⊥) → h p ≡ g p) → h q ≡ v +ℤ g q
    → sum_of h (run first n) ≡ v +ℤ sum_of g (run first n)
unfolding run
raised_sum g h q v first zero low high same more = absurd (omega (arith, low, high))
raised_sum g h q v first (suc n) low high same more = by (q == first) refl (λ low high. raised_sum g h q v (suc first) n low high same more)
  where
    rest : ℤ
    rest = sum_of g (run (suc first) n)

    by : (b : Bool) → (q == first) ≡ b → (suc first ≤ q → q < suc first + n → sum_of h (run (suc first) n) ≡ v +ℤ rest) → h first +ℤ sum_of h (run (suc first) n) ≡ v +ℤ (g first +ℤ rest)
    by true e next = let is : q ≡ first = eqb-true q first e in
        ap₂ (λ (a b : ℤ). a +ℤ b) (ap h (sym is) ∙ more ∙ ap (λ p. v +ℤ g p) is) (same_sum g h (suc first) n (λ p up. same p (λ f. omega (arith, is, up, f)))) ∙ +ℤ_assoc v (g first) rest
    by false e next = let apart = eqb-false q first e in
        ap₂ (λ (a b : ℤ). a +ℤ b) (same first apart) (next (omega (arith, low, apart)) (omega (arith, high)))
        ∙ sym (+ℤ_assoc (g first) v rest) ∙ ap (λ a. a +ℤ rest) (+ℤ_comm (g first) v) ∙ +ℤ_assoc v (g first) rest

none_sum : (g : ℕ → ℤ) (first n : ℕ) → ((p : ℕ) → g p ≡ pos 0) → sum_of g (run first n) ≡ pos 0
unfolding run
none_sum g first zero none = refl
none_sum g first (suc n) none = ap₂ (λ (a b : ℤ). a +ℤ b) (none first) (none_sum g (suc first) n none)

pub sum_often : (f : ℕ → ℤ) (count : ℕ) (places : List ℕ) → AllByRecursion (λ p. p < count) places → sum_of f places ≡ sum_of (λ p. pos (how_often places p) *ℤ f p) (run 0 count)
sum_often f count [] low = sym (none_sum (λ p. pos 0 *ℤ f p) 0 count (λ p. zero-*ℤ (f p)))
sum_often f count (q ∷ places) low =
    ap (λ a. f q +ℤ a) (sum_often f count places low.1)
    ∙ sym (raised_sum (λ p. pos (how_often places p) *ℤ f p) (λ p. pos (how_often (q ∷ places) p) *ℤ f p) q (f q) 0 count (omega arith) (let a = low.0 in omega (arith, a))
    (λ p apart. ap (λ n. pos n *ℤ f p) (often_else q p places apart)) more)
  where
    next : (n : ℕ) → 1 + n ≡ suc n
    next n = omega arith

    more : pos (how_often (q ∷ places) q) *ℤ f q ≡ f q +ℤ pos (how_often places q) *ℤ f q
    more = ap (λ n. pos n *ℤ f q) (often_here q places ∙ next (how_often places q)) ∙ suc_ℤ-*ℤ (pos (how_often places q)) (f q) ∙ +ℤ_comm (pos (how_often places q) *ℤ f q) (f q)

-- ---- the positions one by one, each as often

same_list : (g h : ℕ → ℕ) (first n : ℕ) → ((p : ℕ) → first ≤ p → h p ≡ g p) → flat_map (λ p. replicate (h p) p) (run first n) ≡ flat_map (λ p. replicate (g p) p) (run first n)
unfolding run
same_list g h first zero same = refl
same_list g h first (suc n) same = ap₂ (λ m l. replicate m first ++ l) (same first (omega arith)) (same_list g h (suc first) n (λ p low. same p (omega (arith, low))))

raised_list : (g h : ℕ → ℕ) (q first n : ℕ) → first ≤ q → q < first + n → ((p : ℕ) → (q ≡ p → ⊥) → h p ≡ g p) → h q ≡ suc (g q)
    → IsPermutation (flat_map (λ p. replicate (h p) p) (run first n)) (q ∷ flat_map (λ p. replicate (g p) p) (run first n))
unfolding run
raised_list g h q first zero low high same more = absurd (omega (arith, low, high))
raised_list g h q first (suc n) low high same more = by (q == first) refl (λ low high. raised_list g h q (suc first) n low high same more)
  where
    rest : List ℕ
    rest = flat_map (λ p. replicate (g p) p) (run (suc first) n)

    raised : List ℕ
    raised = flat_map (λ p. replicate (h p) p) (run (suc first) n)

    by : (b : Bool) → (q == first) ≡ b → (suc first ≤ q → q < suc first + n → IsPermutation raised (q ∷ rest)) → IsPermutation (replicate (h first) first ++ raised) (q ∷ (replicate (g first) first ++ rest))
    by true e next =
        let is : q ≡ first = eqb-true q first e in
        let here : h first ≡ suc (g first) = ap h (sym is) ∙ more ∙ ap (λ p. suc (g p)) is in
        let whole : replicate (h first) first ++ raised ≡ q ∷ (replicate (g first) first ++ rest) =
        ap₂ (λ m l. replicate m first ++ l) here (same_list g h (suc first) n (λ p up. same p (λ f. omega (arith, is, up, f)))) ∙ ap (λ p. p ∷ (replicate (g first) first ++ rest)) (sym is) in
        subst (IsPermutation (replicate (h first) first ++ raised)) whole (IsPermutation-refl (replicate (h first) first ++ raised))
    by false e next =
        let apart = eqb-false q first e in
        let here : replicate (g first) first ++ raised ≡ replicate (h first) first ++ raised = ap (λ m. replicate m first ++ raised) (sym (same first apart)) in
        subst (λ l. IsPermutation l (q ∷ (replicate (g first) first ++ rest))) here
        (IsPermutation-trans (replicate (g first) first ++ raised) (replicate (g first) first ++ q ∷ rest) (q ∷ (replicate (g first) first ++ rest))
        (IsPermutation-append_right (replicate (g first) first) raised (q ∷ rest) (next (omega (arith, low, apart)) (omega (arith, high))))
        (IsPermutation-middle (replicate (g first) first) q rest))

none_list : (g : ℕ → ℕ) (first n : ℕ) → ((p : ℕ) → g p ≡ 0) → flat_map (λ p. replicate (g p) p) (run first n) ≡ []
unfolding run
none_list g first zero none = refl
none_list g first (suc n) none = ap₂ (λ m l. replicate m first ++ l) (none first) (none_list g (suc first) n none)

list_often : (count : ℕ) (places : List ℕ) → AllByRecursion (λ p. p < count) places → IsPermutation (flat_map (λ p. replicate (how_often places p) p) (run 0 count)) places
list_often count [] low = subst (λ l. IsPermutation l []) (sym (none_list (λ p. 0) 0 count (λ p. refl))) (IsPermutation-refl [])
list_often count (q ∷ places) low =
    IsPermutation-trans (flat_map (λ p. replicate (how_often (q ∷ places) p) p) (run 0 count)) (q ∷ flat_map (λ p. replicate (how_often places p) p) (run 0 count)) (q ∷ places)
    (raised_list (how_often places) (how_often (q ∷ places)) q 0 count (omega arith) (let a = low.0 in omega (arith, a)) (often_else_at q places) (often_here q places ∙ omega arith))
    (IsPermutation-cons q (flat_map (λ p. replicate (how_often places p) p) (run 0 count)) places (list_often count places low.1))
  where
    often_else_at : (q : ℕ) (places : List ℕ) (p : ℕ) → (q ≡ p → ⊥) → how_often (q ∷ places) p ≡ how_often places p
    often_else_at q places p apart = often_else q p places apart

-- ---- all positions are below the count

all_append : {X : Type 0} (P : X → Type 0) (xs ys : List X) → AllByRecursion P xs → AllByRecursion P ys → AllByRecursion P (xs ++ ys)
all_append P [] ys a b = b
all_append P (x ∷ xs) ys a b = (a.0, all_append P xs ys a.1 b)

run_below : (count first n : ℕ) → first + n ≤ count → AllByRecursion (λ p. p < count) (run first n)
unfolding run
run_below count first zero low = tt
run_below count first (suc n) low = (omega (arith, low), run_below count (suc first) n (omega (arith, low)))

pub spans_below : (count : ℕ) (spans : List Span) → AllByRecursion (IsBelow (count + 1)) spans → AllByRecursion (λ p. p < count) (places_in spans)
spans_below count [] all = tt
spans_below count (s ∷ spans) all =
    all_append (λ p. p < count) (run s.first (s.past - s.first)) (places_in spans) (run_below count s.first (s.past - s.first) (let a = all.0.0 in let b = all.0.1 in omega (arith, a, b))) (spans_below count spans all.1)

versions_below : (count : ℕ) (versions : List Spans) → AllByRecursion (AreBelow (count + 1)) versions → AllByRecursion (λ p. p < count) (places_of versions)
versions_below count [] all = tt
versions_below count (v ∷ versions) all =
    all_append (λ p. p < count) (places_in v.items) (places_of versions) (spans_below count v.items (recursion_from_All (IsBelow (count + 1)) v.items all.0)) (versions_below count versions all.1)

pub counted_sums : (f : ℕ → ℤ) (count : ℕ) (versions : List Spans) → All (AreBelow (count + 1)) versions → sum_of f (places_of versions) ≡ sum_of (λ p. pos (times versions p) *ℤ f p) (run 0 count)
counted_sums f count versions below =
    sum_often f count (places_of versions) (versions_below count versions (recursion_from_All (AreBelow (count + 1)) versions below))
    ∙ same_sum (λ p. pos (times versions p) *ℤ f p) (λ p. pos (how_often (places_of versions) p) *ℤ f p) 0 count (λ p low. ap (λ n. pos n *ℤ f p) (sym (times_often versions p)))

pub pos_sum : {X : Type 0} (f : X → ℕ) (xs : List X) → pos (sum_by f xs) ≡ sum_of (λ x. pos (f x)) xs
pos_sum f [] = refl
pos_sum f (x ∷ xs) = ap pos (sum_by-cons f x xs) ∙ ap (λ a. pos (f x) +ℤ a) (pos_sum f xs)

pub counted_counts : (f : ℕ → ℕ) (count : ℕ) (versions : List Spans) → All (AreBelow (count + 1)) versions → sum_by f (places_of versions) ≡ sum_by (λ p. times versions p * f p) (run 0 count)
counted_counts f count versions below =
    ap nat_abs (pos_sum f (places_of versions) ∙ counted_sums (λ p. pos (f p)) count versions below ∙ sym (pos_sum (λ p. times versions p * f p) (run 0 count)))

pub counted_list : (count : ℕ) (versions : List Spans) → All (AreBelow (count + 1)) versions → IsPermutation (flat_map (λ p. replicate (times versions p) p) (run 0 count)) (places_of versions)
counted_list count versions below =
    subst (λ l. IsPermutation l (places_of versions)) (sym (same_list (how_often (places_of versions)) (times versions) 0 count (λ p low. times_often versions p)))
    (list_often count (places_of versions) (versions_below count versions (recursion_from_All (AreBelow (count + 1)) versions below)))
