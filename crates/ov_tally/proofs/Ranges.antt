-- The sum over a range is the difference of two totals.
use Rattle.std.proofs.Common.{◌≡◌, ◌<◌, ◌≤◌, ◌+◌, ◌-◌, ◌∷◌, ◌++◌, ◌∙◌, [], ℕ, zero, suc, List, refl, sym, ap, subst, arith, length, drop, get_or, drop-cons, add-one, ◌^◌, ap₂, append_assoc, append-nil}
use Rattle.std.specs.Prelude.{ℤ, pos, ◌+ℤ◌, ◌-ℤ◌, ◌≤ℤ◌}
use Rattle.std.proofs.Math.IntN.{+ℤ_assoc, +ℤ_comm, +ℤ_idl, +ℤ_idr, +ℤ-neg_ℤ_cancel}
use Rattle.std.proofs.Math.ListN.{drop_of_length-le}
use Rattle.ov_tally.specs.declared.span.Span.{Span}
use Rattle.std.specs.List.{All}
use Rattle.std.proofs.lemmas.List.Elements.{All-append, All-cons, All-nil}
use Rattle.ov_tally.specs.Running.{IsSmall, later, running, sum_at}
use Rattle.ov_tally.specs.Spans.{places_in, run}

pub next_total : (n : ℤ) (values : List ℤ) (i : ℕ) → i < length values → get_or (running n values) (suc i) (pos 0) ≡ get_or (running n values) i (pos 0) +ℤ get_or values i (pos 0)
next_total n [] i low = absurd (omega (arith, low))
next_total n (v ∷ vs) zero low = refl
next_total n (v ∷ vs) (suc i) low = next_total (n +ℤ v) vs i (omega (arith, low))

pub range_sum : (n : ℤ) (values : List ℤ) (first count : ℕ) → first + count ≤ length values
    → get_or (running n values) first (pos 0) +ℤ sum_at values (run first count) ≡ get_or (running n values) (first + count) (pos 0)
unfolding run
range_sum n values first zero low = let e : first + 0 ≡ first = omega arith in rw e (+ℤ_idr (get_or (running n values) first (pos 0)))
range_sum n values first (suc count) low =
    let t : ℤ = get_or (running n values) first (pos 0) in
    let v : ℤ = get_or values first (pos 0) in
    let e : suc first + count ≡ first + suc count = omega arith in
    sym (+ℤ_assoc t v (sum_at values (run (suc first) count)))
    ∙ ap (λ m. m +ℤ sum_at values (run (suc first) count)) (sym (next_total n values first (omega (arith, low))))
    ∙ range_sum n values (suc first) count (omega (arith, low))
    ∙ ap (λ m. get_or (running n values) m (pos 0)) e

pub sum_at-append : (values : List ℤ) (ps qs : List ℕ) → sum_at values (ps ++ qs) ≡ sum_at values ps +ℤ sum_at values qs
sum_at-append values [] qs = sym (+ℤ_idl (sum_at values qs))
sum_at-append values (p ∷ ps) qs =
    ap (λ m. get_or values p (pos 0) +ℤ m) (sum_at-append values ps qs) ∙ sym (+ℤ_assoc (get_or values p (pos 0)) (sum_at values ps) (sum_at values qs))

-- the totals when one more value came
pub told_more : (told : List ℤ) (n v : ℤ) (values whole : List ℤ) (i : ℕ) → i < length values → v ≡ n +ℤ get_or values i (pos 0) → told ++ later n (drop i values) ≡ whole
    → (told ++ v ∷ []) ++ later v (drop (i + 1) values) ≡ whole
told_more told n v values whole i low is before = append_assoc told (v ∷ []) (later v (drop (i + 1) values)) ∙ ap (λ l. told ++ l) here ∙ before
  where
    here : v ∷ later v (drop (i + 1) values) ≡ later n (drop i values)
    here = ap (λ w. w ∷ later w (drop (i + 1) values)) is ∙ sym (ap (later n) front)
      where
        front : drop i values ≡ get_or values i (pos 0) ∷ drop (i + 1) values
        front = rw (add-one i) (drop-cons values i (pos 0) low)

-- a range more
pub spans_more : (spans : List Span) (values : List ℤ) (i : ℕ) (d : Span) (n m all : ℤ) → i < length spans
    → m ≡ n +ℤ sum_at values (run (get_or spans i d).first ((get_or spans i d).past - (get_or spans i d).first))
    → n +ℤ sum_at values (places_in (drop i spans)) ≡ all → m +ℤ sum_at values (places_in (drop (i + 1) spans)) ≡ all
spans_more spans values i d n m all low is before =
    let s : Span = get_or spans i d in
    let here : List ℕ = run s.first (s.past - s.first) in
    let rest : List ℕ = places_in (drop (i + 1) spans) in
    let front : drop i spans ≡ s ∷ drop (i + 1) spans = rw (add-one i) (drop-cons spans i d low) in
    ap (λ k. k +ℤ sum_at values rest) is ∙ +ℤ_assoc n (sum_at values here) (sum_at values rest)
    ∙ ap (λ k. n +ℤ k) (sym (sum_at-append values here rest)) ∙ ap (λ l. n +ℤ sum_at values (places_in l)) (sym front) ∙ before

-- over one range
pub range_is : (totals values : List ℤ) (first past : ℕ) (n m a b : ℤ) → first ≤ past → past < length totals → totals ≡ running (pos 0) values
    → a ≡ get_or totals past (pos 0) → b ≡ get_or totals first (pos 0) → m ≡ n +ℤ (a -ℤ b) → m ≡ n +ℤ sum_at values (run first (past - first))
range_is totals values first past n m a b up low is past_is first_is sum =
    sum ∙ ap (λ k. n +ℤ k) (ap₂ (λ (x y : ℤ). x -ℤ y) (past_is ∙ ap (λ l. get_or l past (pos 0)) is) (first_is ∙ ap (λ l. get_or l first (pos 0)) is) ∙ minus)
  where
    long : (n : ℤ) (vs : List ℤ) → length (later n vs) ≡ length vs
    long n [] = refl
    long n (v ∷ vs) = ap suc (long (n +ℤ v) vs)

    whole : first + (past - first) ≡ past
    whole = omega (arith, up)

    s : ℤ
    s = sum_at values (run first (past - first))

    t : ℤ
    t = get_or (running (pos 0) values) first (pos 0)

    minus : get_or (running (pos 0) values) past (pos 0) -ℤ t ≡ s
    minus = ap (λ k. k -ℤ t) (sym (range_sum (pos 0) values first (past - first) (omega (arith, low, ap length is, long (pos 0) values, up)) ∙ ap (λ k. get_or (running (pos 0) values) k (pos 0)) whole))
        ∙ ap (λ k. k -ℤ t) (+ℤ_comm t s) ∙ +ℤ-neg_ℤ_cancel s t

pub all_told : (told : List ℤ) (n : ℤ) (values whole : List ℤ) (i : ℕ) → length values ≤ i → told ++ later n (drop i values) ≡ whole → told ≡ whole
all_told told n values whole i past is = sym (ap (λ l. told ++ later n l) (drop_of_length-le values past) ∙ append-nil told) ∙ is

-- with what was pushed
pub pushed_more : (old new : List ℤ) (n v w : ℤ) (values whole : List ℤ) (i : ℕ) → i < length values → new ≡ old ++ w ∷ [] → w ≡ v → v ≡ n +ℤ get_or values i (pos 0) → old ++ later n (drop i values) ≡ whole
    → new ++ later v (drop (i + 1) values) ≡ whole
pushed_more old new n v w values whole i low push same is before = ap (λ l. l ++ later v (drop (i + 1) values)) (push ∙ ap (λ k. old ++ k ∷ []) same) ∙ told_more old n v values whole i low is before

pub pushed_small : (old new : List ℤ) (v w : ℤ) → new ≡ old ++ w ∷ [] → w ≡ v → pos 0 ≤ℤ (v +ℤ pos (2 ^ 94)) → v ≤ℤ pos (2 ^ 94) → All IsSmall old → All IsSmall new
pushed_small old new v w push same low high all = subst (All IsSmall) (sym (push ∙ ap (λ k. old ++ k ∷ []) same)) (All-append IsSmall old (v ∷ []) all (All-cons IsSmall v [] (low, high) (All-nil IsSmall)))
