-- The groups of the definitions are the runs of the sorted list.
use Rattle.std.proofs.Common.{◌≡◌, ◌∷◌, ◌∙◌, [], List, Bool, true, false, not, cond, if◌then◌else◌, ap, ap₂, refl, sym, subst, map, get_or, drop, filter, true≢false, is_eq, is_gt, Ordering, Less, Equal, Greater}
use Rattle.std.specs.Prelude.{⊤}
use Rattle.std.specs.List.{AllByRecursion}
use Rattle.std.specs.Ordering.{on, ordering_reverse}
use Rattle.std.specs.Cmp.{IsTotalOrder}
use Rattle.std.proofs.lemmas.Cmp.{tied_itself, alike_right, on_total}
use Rattle.ov_model.specs.Answers.{is_above, placed_by, sorted_by}
use Rattle.ov_qrun.specs.Runs.{Run, run_items, in_front, cut}
use Rattle.ov_qrun.proofs.Sorting.{Rises, above-gt, filter-all, sorted-kept, sorted-rises, upto-all}

-- ---- an element that comes to runs

abbrev pub put_at : {X : Type 0} → Ordering → X → Run X → List (Run X) → List (Run X) → List (Run X)
put_at Less x run runs later = (x, []) ∷ run ∷ runs
put_at Equal x run runs later = (x, run.0 ∷ run.1) ∷ runs
put_at Greater x run runs later = run ∷ later

abbrev pub put : {X : Type 0} → (X → X → Ordering) → X → List (Run X) → List (Run X)
put R x [] = (x, []) ∷ []
put R x (run ∷ runs) = put_at (R x run.0) x run runs (put R x runs)

abbrev pub runs_of : {X : Type 0} → (X → X → Ordering) → List X → List (Run X)
runs_of R [] = []
runs_of R (x ∷ xs) = put R x (runs_of R xs)

abbrev pub same_by : {X : Type 0} → (X → X → Ordering) → X → X → Bool
same_by R x y = is_eq (R x y)

-- in front of what it isn't above
low-step : {X : Type 0} (R : X → X → Ordering) (x y : X) (ys : List X) (runs : List (Run X)) (o : Ordering) → R x y ≡ o → is_above o ≡ false
    → in_front (same_by R) x ((y, ys) ∷ runs) ≡ put R x ((y, ys) ∷ runs)
low-step R x y ys runs Less e low =
    ap (λ o. if is_eq o then (x, y ∷ ys) ∷ runs else (x, []) ∷ (y, ys) ∷ runs) e ∙ sym (ap (λ o. put_at o x (y, ys) runs (put R x runs)) e)
low-step R x y ys runs Equal e low =
    ap (λ o. if is_eq o then (x, y ∷ ys) ∷ runs else (x, []) ∷ (y, ys) ∷ runs) e ∙ sym (ap (λ o. put_at o x (y, ys) runs (put R x runs)) e)
low-step R x y ys runs Greater e low = absurd (true≢false low)

low-if : {X : Type 0} (R : X → X → Ordering) (x y : X) (run : Run X) (runs : List (Run X)) (b : Bool) → is_above (R x y) ≡ false
    → in_front (same_by R) x (if b then (y, run.0 ∷ run.1) ∷ runs else (y, []) ∷ run ∷ runs)
    ≡ put R x (if b then (y, run.0 ∷ run.1) ∷ runs else (y, []) ∷ run ∷ runs)
low-if R x y run runs true low = low-step R x y (run.0 ∷ run.1) runs (R x y) refl low
low-if R x y run runs false low = low-step R x y [] (run ∷ runs) (R x y) refl low

low : {X : Type 0} (R : X → X → Ordering) (x y : X) (runs : List (Run X)) → is_above (R x y) ≡ false
    → in_front (same_by R) x (in_front (same_by R) y runs) ≡ put R x (in_front (same_by R) y runs)
low R x y [] e = low-step R x y [] [] (R x y) refl e
low R x y (run ∷ runs) e = low-if R x y run runs (same_by R y run.0) e

greater : (o : Ordering) → is_above o ≡ true → o ≡ Greater
greater Less e = absurd (true≢false (sym e))
greater Equal e = absurd (true≢false (sym e))
greater Greater e = refl

is-equal : (o : Ordering) → is_eq o ≡ true → o ≡ Equal
is-equal Less e = absurd (true≢false (sym e))
is-equal Equal e = refl
is-equal Greater e = absurd (true≢false (sym e))

-- behind what it is above: `y` is the lesser one
abbrev onto : {X : Type 0} → Bool → X → Run X → List (Run X) → List (Run X)
onto b y run runs = if b then (y, run.0 ∷ run.1) ∷ runs else (y, []) ∷ run ∷ runs

high-apart : {X : Type 0} (R : X → X → Ordering) (x y : X) (run : Run X) (runs : List (Run X)) (o : Ordering) → same_by R y x ≡ false → same_by R y run.0 ≡ false
    → in_front (same_by R) y (put_at o x run runs (put R x runs)) ≡ (y, []) ∷ put_at o x run runs (put R x runs)
high-apart R x y run runs Less ex er = ap (λ b. onto b y (x, []) (run ∷ runs)) ex
high-apart R x y run runs Equal ex er = ap (λ b. onto b y (x, run.0 ∷ run.1) runs) ex
high-apart R x y run runs Greater ex er = ap (λ b. onto b y run (put R x runs)) er

put-above : {X : Type 0} (R : X → X → Ordering) (x y : X) (ys : List X) (runs : List (Run X)) → R x y ≡ Greater
    → put R x ((y, ys) ∷ runs) ≡ (y, ys) ∷ put R x runs
put-above R x y ys runs e = ap (λ o. put_at o x (y, ys) runs (put R x runs)) e

high-if : {X : Type 0} (R : X → X → Ordering) (t : IsTotalOrder R) (x y : X) (run : Run X) (runs : List (Run X)) (b : Bool) → R x y ≡ Greater
    → same_by R y x ≡ false → same_by R y run.0 ≡ b
    → in_front (same_by R) y (put R x (run ∷ runs)) ≡ put R x (onto b y run runs)
high-if R t x y run runs true e ex er =
    let there : R x run.0 ≡ Greater = sym (alike_right t y run.0 x (is-equal (R y run.0) er)) ∙ e in
    ap (λ o. in_front (same_by R) y (put_at o x run runs (put R x runs))) there
    ∙ ap (λ b. onto b y run (put R x runs)) er
    ∙ sym (put-above R x y (run.0 ∷ run.1) runs e)
high-if R t x y run runs false e ex er =
    high-apart R x y run runs (R x run.0) ex er ∙ sym (put-above R x y [] (run ∷ runs) e)

turned-less : {X : Type 0} (R : X → X → Ordering) (t : IsTotalOrder R) (x y : X) → R x y ≡ Greater → R y x ≡ Less
turned-less R t x y e = t.antisymm y x ∙ ap ordering_reverse e

turned-greater : {X : Type 0} (R : X → X → Ordering) (t : IsTotalOrder R) (x y : X) → R x y ≡ Less → R y x ≡ Greater
turned-greater R t x y e = t.antisymm y x ∙ ap ordering_reverse e

high : {X : Type 0} (R : X → X → Ordering) (t : IsTotalOrder R) (x y : X) (runs : List (Run X)) → R x y ≡ Greater
    → in_front (same_by R) y (put R x runs) ≡ put R x (in_front (same_by R) y runs)
high R t x y [] e = ap (λ o. onto (is_eq o) y (x, []) []) (turned-less R t x y e) ∙ sym (put-above R x y [] [] e)
high R t x y (run ∷ runs) e =
    high-if R t x y run runs (same_by R y run.0) e (ap is_eq (turned-less R t x y e)) refl

placed-step : {X : Type 0} (R : X → X → Ordering) (t : IsTotalOrder R) (x y : X) (ys : List X) (b : Bool) → is_above (R x y) ≡ b
    → cut (same_by R) (placed_by R x ys) ≡ put R x (cut (same_by R) ys)
    → cut (same_by R) (if b then y ∷ placed_by R x ys else x ∷ y ∷ ys) ≡ put R x (cut (same_by R) (y ∷ ys))
placed-step R t x y ys true e before =
    ap (in_front (same_by R) y) before ∙ high R t x y (cut (same_by R) ys) (greater (R x y) e)
placed-step R t x y ys false e before = low R x y (cut (same_by R) ys) e

placed-cut : {X : Type 0} (R : X → X → Ordering) (t : IsTotalOrder R) (x : X) (ys : List X)
    → cut (same_by R) (placed_by R x ys) ≡ put R x (cut (same_by R) ys)
placed-cut R t x [] = refl
placed-cut R t x (y ∷ ys) = placed-step R t x y ys (is_above (R x y)) refl (placed-cut R t x ys)

pub sorted-cut : {X : Type 0} (R : X → X → Ordering) (t : IsTotalOrder R) (xs : List X) → cut (same_by R) (sorted_by R xs) ≡ runs_of R xs
sorted-cut R t [] = refl
sorted-cut R t (x ∷ xs) = placed-cut R t x (sorted_by R xs) ∙ ap (put R x) (sorted-cut R t xs)

-- ---- a key that comes to ascending keys

abbrev once_at : {K : Type 0} → Ordering → K → K → List K → List K → List K
once_at Less k y ys later = k ∷ y ∷ ys
once_at Equal k y ys later = k ∷ ys
once_at Greater k y ys later = y ∷ later

abbrev once : {K : Type 0} → (K → K → Ordering) → K → List K → List K
once Q k [] = k ∷ []
once Q k (y ∷ ys) = once_at (Q k y) k y ys (once Q k ys)

abbrev ranks : {K : Type 0} → (K → K → Ordering) → List K → List K
ranks Q [] = []
ranks Q (k ∷ ks) = once Q k (ranks Q ks)

abbrev Climbs : {K : Type 0} → (K → K → Ordering) → List K → Type 0
Climbs Q [] = ⊤
Climbs Q (k ∷ ks) = AllByRecursion (λ y. Q k y ≡ Less) ks × Climbs Q ks

once-at-all : {K : Type 0} (P : K → Type 0) (o : Ordering) (k y : K) (ys later : List K) → P k → P y → AllByRecursion P ys → AllByRecursion P later
    → AllByRecursion P (once_at o k y ys later)
once-at-all P Less k y ys later pk py all more = (pk, (py, all))
once-at-all P Equal k y ys later pk py all more = (pk, all)
once-at-all P Greater k y ys later pk py all more = (py, more)

once-all : {K : Type 0} (P : K → Type 0) (Q : K → K → Ordering) (k : K) (ys : List K) → P k → AllByRecursion P ys → AllByRecursion P (once Q k ys)
once-all P Q k [] pk all = (pk, tt)
once-all P Q k (y ∷ ys) pk all = once-at-all P (Q k y) k y ys (once Q k ys) pk all.0 all.1 (once-all P Q k ys pk all.1)

less-all : {K : Type 0} (Q : K → K → Ordering) (t : IsTotalOrder Q) (k y : K) (zs : List K) → Q k y ≡ Less → AllByRecursion (λ z. Q y z ≡ Less) zs
    → AllByRecursion (λ z. Q k z ≡ Less) zs
less-all Q t k y [] e all = tt
less-all Q t k y (z ∷ zs) e all = (t.trans k y z e all.0, less-all Q t k y zs e all.1)

equal-all : {K : Type 0} (Q : K → K → Ordering) (t : IsTotalOrder Q) (k y : K) (zs : List K) → Q k y ≡ Equal → AllByRecursion (λ z. Q y z ≡ Less) zs
    → AllByRecursion (λ z. Q k z ≡ Less) zs
equal-all Q t k y [] e all = tt
equal-all Q t k y (z ∷ zs) e all = (t.congr k y z e ∙ all.0, equal-all Q t k y zs e all.1)

climbs-step : {K : Type 0} (Q : K → K → Ordering) (t : IsTotalOrder Q) (k y : K) (ys : List K) (o : Ordering) → Q k y ≡ o → Climbs Q (y ∷ ys)
    → Climbs Q (once Q k ys) → Climbs Q (once_at o k y ys (once Q k ys))
climbs-step Q t k y ys Less e up later = ((e, less-all Q t k y ys e up.0), up)
climbs-step Q t k y ys Equal e up later = (equal-all Q t k y ys e up.0, up.1)
climbs-step Q t k y ys Greater e up later = (once-all (λ z. Q y z ≡ Less) Q k ys (turned-less Q t k y e) up.0, later)

once-climbs : {K : Type 0} (Q : K → K → Ordering) (t : IsTotalOrder Q) (k : K) (ys : List K) → Climbs Q ys → Climbs Q (once Q k ys)
once-climbs Q t k [] up = (tt, tt)
once-climbs Q t k (y ∷ ys) up = climbs-step Q t k y ys (Q k y) refl up (once-climbs Q t k ys up.1)

ranks-climb : {K : Type 0} (Q : K → K → Ordering) (t : IsTotalOrder Q) (ks : List K) → Climbs Q (ranks Q ks)
ranks-climb Q t [] = tt
ranks-climb Q t (k ∷ ks) = once-climbs Q t k (ranks Q ks) (ranks-climb Q t ks)

-- ---- the distinct keys, sorted

abbrev pub differs : {K : Type 0} → (K → K → Ordering) → K → K → Bool
differs Q k other = not (is_eq (Q k other))

abbrev pub distinct_by : {K : Type 0} → (K → K → Ordering) → List K → List K
distinct_by Q [] = []
distinct_by Q (k ∷ ks) = k ∷ filter (differs Q k) (distinct_by Q ks)

-- a filter may come before the sort or behind it
placed-low : {K : Type 0} (Q : K → K → Ordering) (d : K) (zs : List K) → AllByRecursion (λ z. is_gt (Q d z) ≡ false) zs → placed_by Q d zs ≡ d ∷ zs
placed-low Q d [] all = refl
placed-low Q d (z ∷ zs) all = ap (λ b. if b then z ∷ placed_by Q d zs else d ∷ z ∷ zs) (above-gt (Q d z) ∙ all.0)

filter-above : {K : Type 0} (Q : K → K → Ordering) (d y : K) (later : List K) (fys : List K) (pd py : Bool) → is_above (Q d y) ≡ true
    → later ≡ cond pd (placed_by Q d fys) fys
    → cond py (y ∷ later) later ≡ cond pd (placed_by Q d (cond py (y ∷ fys) fys)) (cond py (y ∷ fys) fys)
filter-above Q d y later fys true true e is =
    ap (λ l. y ∷ l) is ∙ sym (ap (λ b. if b then y ∷ placed_by Q d fys else d ∷ y ∷ fys) e)
filter-above Q d y later fys true false e is = is
filter-above Q d y later fys false true e is = ap (λ l. y ∷ l) is
filter-above Q d y later fys false false e is = is

filter-low : {K : Type 0} (Q : K → K → Ordering) (d : K) (zs : List K) (pd : Bool) → AllByRecursion (λ z. is_gt (Q d z) ≡ false) zs
    → cond pd (d ∷ zs) zs ≡ cond pd (placed_by Q d zs) zs
filter-low Q d zs true all = sym (placed-low Q d zs all)
filter-low Q d zs false all = refl

filter-step : {K : Type 0} (Q : K → K → Ordering) (t : IsTotalOrder Q) (p : K → Bool) (d y : K) (ys : List K) (b : Bool) → is_above (Q d y) ≡ b → Rises Q (y ∷ ys)
    → filter p (placed_by Q d ys) ≡ cond (p d) (placed_by Q d (filter p ys)) (filter p ys)
    → filter p (if b then y ∷ placed_by Q d ys else d ∷ y ∷ ys) ≡ cond (p d) (placed_by Q d (filter p (y ∷ ys))) (filter p (y ∷ ys))
filter-step Q t p d y ys true e up before = filter-above Q d y (filter p (placed_by Q d ys)) (filter p ys) (p d) (p y) e before
filter-step Q t p d y ys false e up before =
    let le : is_gt (Q d y) ≡ false = sym (above-gt (Q d y)) ∙ e in
    filter-low Q d (filter p (y ∷ ys)) (p d) (filter-all (λ z. is_gt (Q d z) ≡ false) p (y ∷ ys) (le, upto-all Q t d y ys le up.0))

placed-filter : {K : Type 0} (Q : K → K → Ordering) (t : IsTotalOrder Q) (p : K → Bool) (d : K) (ys : List K) → Rises Q ys
    → filter p (placed_by Q d ys) ≡ cond (p d) (placed_by Q d (filter p ys)) (filter p ys)
placed-filter Q t p d [] up = refl
placed-filter Q t p d (y ∷ ys) up = filter-step Q t p d y ys (is_above (Q d y)) refl up (placed-filter Q t p d ys up.1)

sorted-if : {K : Type 0} (Q : K → K → Ordering) (d : K) (zs : List K) (b : Bool) → cond b (placed_by Q d (sorted_by Q zs)) (sorted_by Q zs) ≡ sorted_by Q (cond b (d ∷ zs) zs)
sorted-if Q d zs true = refl
sorted-if Q d zs false = refl

sorted-filter : {K : Type 0} (Q : K → K → Ordering) (t : IsTotalOrder Q) (p : K → Bool) (ds : List K) → filter p (sorted_by Q ds) ≡ sorted_by Q (filter p ds)
sorted-filter Q t p [] = refl
sorted-filter Q t p (d ∷ ds) =
    placed-filter Q t p d (sorted_by Q ds) (sorted-rises Q t ds)
    ∙ ap (λ l. cond (p d) (placed_by Q d l) l) (sorted-filter Q t p ds)
    ∙ sorted-if Q d (filter p ds) (p d)

-- where all are above a key, none is the same
keep-less : {K : Type 0} (Q : K → K → Ordering) (k : K) (zs : List K) → AllByRecursion (λ z. Q k z ≡ Less) zs → filter (differs Q k) zs ≡ zs
keep-less Q k [] all = refl
keep-less Q k (z ∷ zs) all =
    ap (λ o. cond (not (is_eq o)) (z ∷ filter (differs Q k) zs) (filter (differs Q k) zs)) all.0 ∙ ap (λ l. z ∷ l) (keep-less Q k zs all.1)

place-less : {K : Type 0} (Q : K → K → Ordering) (k : K) (zs : List K) → AllByRecursion (λ z. Q k z ≡ Less) zs → placed_by Q k zs ≡ k ∷ zs
place-less Q k [] all = refl
place-less Q k (z ∷ zs) all = ap (λ o. if is_above o then z ∷ placed_by Q k zs else k ∷ z ∷ zs) all.0

once-step : {K : Type 0} (Q : K → K → Ordering) (t : IsTotalOrder Q) (k y : K) (ys : List K) (o : Ordering) → Q k y ≡ o → Climbs Q (y ∷ ys)
    → placed_by Q k (filter (differs Q k) ys) ≡ once Q k ys
    → placed_by Q k (cond (not (is_eq o)) (y ∷ filter (differs Q k) ys) (filter (differs Q k) ys)) ≡ once_at o k y ys (once Q k ys)
once-step Q t k y ys Less e up before =
    let all : AllByRecursion (λ z. Q k z ≡ Less) ys = less-all Q t k y ys e up.0 in
    ap (λ l. placed_by Q k (y ∷ l)) (keep-less Q k ys all) ∙ place-less Q k (y ∷ ys) (e, all)
once-step Q t k y ys Equal e up before =
    let all : AllByRecursion (λ z. Q k z ≡ Less) ys = equal-all Q t k y ys e up.0 in
    ap (placed_by Q k) (keep-less Q k ys all) ∙ place-less Q k ys all
once-step Q t k y ys Greater e up before =
    ap (λ o. if is_above o then y ∷ placed_by Q k (filter (differs Q k) ys) else k ∷ y ∷ filter (differs Q k) ys) e ∙ ap (λ l. y ∷ l) before

placed-once : {K : Type 0} (Q : K → K → Ordering) (t : IsTotalOrder Q) (k : K) (ys : List K) → Climbs Q ys → placed_by Q k (filter (differs Q k) ys) ≡ once Q k ys
placed-once Q t k [] up = refl
placed-once Q t k (y ∷ ys) up = once-step Q t k y ys (Q k y) refl up (placed-once Q t k ys up.1)

pub keys-are : {K : Type 0} (Q : K → K → Ordering) (t : IsTotalOrder Q) (ks : List K) → sorted_by Q (distinct_by Q ks) ≡ ranks Q ks
keys-are Q t [] = refl
keys-are Q t (k ∷ ks) =
    ap (placed_by Q k) (sym (sorted-filter Q t (differs Q k) (distinct_by Q ks)) ∙ ap (filter (differs Q k)) (keys-are Q t ks))
    ∙ placed-once Q t k (ranks Q ks) (ranks-climb Q t ks)

-- ---- the runs have these keys

put-key : {X K : Type 0} (key : X → K) (Q : K → K → Ordering) (x : X) (run : Run X) (runs : List (Run X)) (o : Ordering)
    → map (λ r. key r.0) (put (λ a b. Q (key a) (key b)) x runs) ≡ once Q (key x) (map (λ r. key r.0) runs)
    → map (λ r. key r.0) (put_at o x run runs (put (λ a b. Q (key a) (key b)) x runs))
    ≡ once_at o (key x) (key run.0) (map (λ r. key r.0) runs) (once Q (key x) (map (λ r. key r.0) runs))
put-key key Q x run runs Less e = refl
put-key key Q x run runs Equal e = refl
put-key key Q x run runs Greater e = ap (λ l. key run.0 ∷ l) e

put-keys : {X K : Type 0} (key : X → K) (Q : K → K → Ordering) (x : X) (runs : List (Run X))
    → map (λ r. key r.0) (put (λ a b. Q (key a) (key b)) x runs) ≡ once Q (key x) (map (λ r. key r.0) runs)
put-keys key Q x [] = refl
put-keys key Q x (run ∷ runs) = put-key key Q x run runs (Q (key x) (key run.0)) (put-keys key Q x runs)

runs-keys : {X K : Type 0} (key : X → K) (Q : K → K → Ordering) (xs : List X)
    → map (λ r. key r.0) (runs_of (λ a b. Q (key a) (key b)) xs) ≡ ranks Q (map key xs)
runs-keys key Q [] = refl
runs-keys key Q (x ∷ xs) =
    put-keys key Q x (runs_of (λ a b. Q (key a) (key b)) xs) ∙ ap (once Q (key x)) (runs-keys key Q xs)

-- ---- the items of each run are those that are the same

heads-if : {X : Type 0} (P : X → Type 0) (b : Bool) (x : X) (run : Run X) (runs : List (Run X)) → P x → AllByRecursion (λ r. P r.0) (run ∷ runs)
    → AllByRecursion (λ r. P r.0) (onto b x run runs)
heads-if P true x run runs px all = (px, all.1)
heads-if P false x run runs px all = (px, all)

heads-step : {X : Type 0} (P : X → Type 0) (same : X → X → Bool) (x : X) (runs : List (Run X)) → P x → AllByRecursion (λ r. P r.0) runs
    → AllByRecursion (λ r. P r.0) (in_front same x runs)
heads-step P same x [] px all = (px, tt)
heads-step P same x (run ∷ runs) px all = heads-if P (same x run.0) x run runs px all

heads-all : {X : Type 0} (P : X → Type 0) (same : X → X → Bool) (xs : List X) → AllByRecursion P xs → AllByRecursion (λ r. P r.0) (cut same xs)
heads-all P same [] all = tt
heads-all P same (x ∷ xs) all = heads-step P same x (cut same xs) all.0 (heads-all P same xs all.1)

abbrev HeadsClimb : {X : Type 0} → (X → X → Ordering) → List (Run X) → Type 0
HeadsClimb R [] = ⊤
HeadsClimb R (run ∷ runs) = AllByRecursion (λ r. R run.0 r.0 ≡ Less) runs × HeadsClimb R runs

-- the first one of a list is that of its first run
abbrev Begins : {X : Type 0} → List X → List (Run X) → Type 0
Begins [] runs = runs ≡ []
Begins (x ∷ xs) [] = ⊥
Begins (x ∷ xs) (run ∷ runs) = run.0 ≡ x

begins-if : {X : Type 0} (b : Bool) (x : X) (xs : List X) (run : Run X) (runs : List (Run X)) → Begins (x ∷ xs) (onto b x run runs)
begins-if true x xs run runs = refl
begins-if false x xs run runs = refl

begins-front : {X : Type 0} (same : X → X → Bool) (x : X) (xs : List X) (runs : List (Run X)) → Begins (x ∷ xs) (in_front same x runs)
begins-front same x xs [] = refl
begins-front same x xs (run ∷ runs) = begins-if (same x run.0) x xs run runs

begins : {X : Type 0} (same : X → X → Bool) (xs : List X) → Begins xs (cut same xs)
begins same [] = refl
begins same (x ∷ xs) = begins-front same x xs (cut same xs)

only-less : (o : Ordering) → is_eq o ≡ false → is_gt o ≡ false → o ≡ Less
only-less Less e g = refl
only-less Equal e g = absurd (true≢false e)
only-less Greater e g = absurd (true≢false g)

equal-heads : {X : Type 0} (R : X → X → Ordering) (t : IsTotalOrder R) (x y : X) (runs : List (Run X)) → R x y ≡ Equal
    → AllByRecursion (λ r. R y r.0 ≡ Less) runs → AllByRecursion (λ r. R x r.0 ≡ Less) runs
equal-heads R t x y [] e all = tt
equal-heads R t x y (run ∷ runs) e all = (t.congr x y run.0 e ∙ all.0, equal-heads R t x y runs e all.1)

less-heads : {X : Type 0} (R : X → X → Ordering) (t : IsTotalOrder R) (x y : X) (runs : List (Run X)) → R x y ≡ Less
    → AllByRecursion (λ r. R y r.0 ≡ Less) runs → AllByRecursion (λ r. R x r.0 ≡ Less) runs
less-heads R t x y [] e all = tt
less-heads R t x y (run ∷ runs) e all = (t.trans x y run.0 e all.0, less-heads R t x y runs e all.1)

climb-if : {X : Type 0} (R : X → X → Ordering) (t : IsTotalOrder R) (x : X) (run : Run X) (runs : List (Run X)) (b : Bool) → same_by R x run.0 ≡ b
    → is_gt (R x run.0) ≡ false → HeadsClimb R (run ∷ runs) → HeadsClimb R (onto b x run runs)
climb-if R t x run runs true e low up = (equal-heads R t x run.0 runs (is-equal (R x run.0) e) up.0, up.1)
climb-if R t x run runs false e low up =
    let less : R x run.0 ≡ Less = only-less (R x run.0) e low in
    ((less, less-heads R t x run.0 runs less up.0), up)

climb-front : {X : Type 0} (R : X → X → Ordering) (t : IsTotalOrder R) (x : X) (runs : List (Run X)) → AllByRecursion (λ r. is_gt (R x r.0) ≡ false) runs
    → HeadsClimb R runs → HeadsClimb R (in_front (same_by R) x runs)
climb-front R t x [] low up = (tt, tt)
climb-front R t x (run ∷ runs) low up = climb-if R t x run runs (same_by R x run.0) refl low.0 up

heads-climb : {X : Type 0} (R : X → X → Ordering) (t : IsTotalOrder R) (xs : List X) → Rises R xs → HeadsClimb R (cut (same_by R) xs)
heads-climb R t [] up = tt
heads-climb R t (x ∷ xs) up =
    climb-front R t x (cut (same_by R) xs) (heads-all (λ z. is_gt (R x z) ≡ false) (same_by R) xs up.0) (heads-climb R t xs up.1)

abbrev alike : {X : Type 0} → (X → X → Ordering) → List X → Run X → List X
alike R xs run = filter (same_by R run.0) xs

rest-alike : {X : Type 0} (R : X → X → Ordering) (t : IsTotalOrder R) (x : X) (xs : List X) (runs : List (Run X)) → AllByRecursion (λ r. R x r.0 ≡ Less) runs
    → map (alike R (x ∷ xs)) runs ≡ map (alike R xs) runs
rest-alike R t x xs [] all = refl
rest-alike R t x xs (run ∷ runs) all =
    ap₂ (λ y ys. y ∷ ys)
    (ap (λ o. cond (is_eq o) (x ∷ filter (same_by R run.0) xs) (filter (same_by R run.0) xs)) (turned-greater R t x run.0 all.0))
    (rest-alike R t x xs runs all.1)

none-alike : {X : Type 0} (R : X → X → Ordering) (x : X) (zs : List X) → AllByRecursion (λ z. R x z ≡ Less) zs → filter (same_by R x) zs ≡ []
none-alike R x [] all = refl
none-alike R x (z ∷ zs) all =
    ap (λ o. cond (is_eq o) (z ∷ filter (same_by R x) zs) (filter (same_by R x) zs)) all.0 ∙ none-alike R x zs all.1

less-upto : {X : Type 0} (R : X → X → Ordering) (t : IsTotalOrder R) (x y z : X) (o : Ordering) → R x y ≡ Less → R y z ≡ o → is_gt o ≡ false → R x z ≡ Less
less-upto R t x y z Less e f low = t.trans x y z e f
less-upto R t x y z Equal e f low = sym (alike_right t y z x f) ∙ e
less-upto R t x y z Greater e f low = absurd (true≢false low)

less-behind : {X : Type 0} (R : X → X → Ordering) (t : IsTotalOrder R) (x y : X) (zs : List X) → R x y ≡ Less → AllByRecursion (λ z. is_gt (R y z) ≡ false) zs
    → AllByRecursion (λ z. R x z ≡ Less) zs
less-behind R t x y [] e all = tt
less-behind R t x y (z ∷ zs) e all = (less-upto R t x y z (R y z) e refl all.0, less-behind R t x y zs e all.1)

self-alike : {X : Type 0} (R : X → X → Ordering) (t : IsTotalOrder R) (x : X) (xs : List X) → filter (same_by R x) (x ∷ xs) ≡ x ∷ filter (same_by R x) xs
self-alike R t x xs = ap (λ o. cond (is_eq o) (x ∷ filter (same_by R x) xs) (filter (same_by R x) xs)) (tied_itself t x)

items-if : {X : Type 0} (R : X → X → Ordering) (t : IsTotalOrder R) (x y : X) (xs : List X) (run : Run X) (runs : List (Run X)) (b : Bool) → same_by R x run.0 ≡ b
    → run.0 ≡ y → Rises R (x ∷ y ∷ xs) → HeadsClimb R (run ∷ runs) → map (alike R (y ∷ xs)) (run ∷ runs) ≡ map run_items (run ∷ runs)
    → map (alike R (x ∷ y ∷ xs)) (onto b x run runs) ≡ map run_items (onto b x run runs)
items-if R t x y xs run runs true e is up climb before =
    let equal : R x run.0 ≡ Equal = is-equal (R x run.0) e in
    let first : filter (same_by R x) (x ∷ y ∷ xs) ≡ x ∷ run_items run =
    self-alike R t x (y ∷ xs) ∙ ap (λ l. x ∷ l) ((λ i. filter (λ z. is_eq (t.congr x run.0 z equal i)) (y ∷ xs)) ∙ ap (λ l. get_or l 0 []) before) in
    ap₂ (λ l ls. l ∷ ls) first (rest-alike R t x (y ∷ xs) runs (equal-heads R t x run.0 runs equal climb.0) ∙ ap (drop 1) before)
items-if R t x y xs run runs false e is up climb before =
    let low : is_gt (R x run.0) ≡ false = subst (λ z. is_gt (R x z) ≡ false) (sym is) up.0.0 in
    let less : R x run.0 ≡ Less = only-less (R x run.0) e low in
    let here : R x y ≡ Less = subst (λ z. R x z ≡ Less) is less in
    let none : filter (same_by R x) (y ∷ xs) ≡ [] = none-alike R x (y ∷ xs) (here, less-behind R t x y xs here up.1.0) in
    ap₂ (λ l ls. l ∷ ls) (self-alike R t x (y ∷ xs) ∙ ap (λ l. x ∷ l) none)
    (rest-alike R t x (y ∷ xs) (run ∷ runs) (less, less-heads R t x run.0 runs less climb.0) ∙ before)

items-front : {X : Type 0} (R : X → X → Ordering) (t : IsTotalOrder R) (x y : X) (xs : List X) (runs : List (Run X)) → Begins (y ∷ xs) runs
    → Rises R (x ∷ y ∷ xs) → HeadsClimb R runs → map (alike R (y ∷ xs)) runs ≡ map run_items runs
    → map (alike R (x ∷ y ∷ xs)) (in_front (same_by R) x runs) ≡ map run_items (in_front (same_by R) x runs)
items-front R t x y xs [] begin up climb before = absurd begin
items-front R t x y xs (run ∷ runs) begin up climb before =
    items-if R t x y xs run runs (same_by R x run.0) refl begin up climb before

items : {X : Type 0} (R : X → X → Ordering) (t : IsTotalOrder R) (xs : List X) → Rises R xs
    → map (alike R xs) (cut (same_by R) xs) ≡ map run_items (cut (same_by R) xs)
items R t [] up = refl
items R t (x ∷ []) up = ap (λ l. l ∷ []) (self-alike R t x [])
items R t (x ∷ y ∷ xs) up =
    items-front R t x y xs (cut (same_by R) (y ∷ xs)) (begins (same_by R) (y ∷ xs)) up (heads-climb R t (y ∷ xs) up.1) (items R t (y ∷ xs) up.1)

-- ---- all of it

map-through : {A B C : Type 0} (g : B → C) (f : A → B) (xs : List A) → map g (map f xs) ≡ map (λ x. g (f x)) xs
map-through g f [] = refl
map-through g f (x ∷ xs) = ap (λ l. g (f x) ∷ l) (map-through g f xs)

-- those that have this key
abbrev pub with_key : {X K : Type 0} → (X → K) → (K → K → Ordering) → List X → K → List X
with_key key Q xs k = filter (λ x. is_eq (Q k (key x))) xs

together : {X K : Type 0} (key : X → K) (Q : K → K → Ordering) (t : IsTotalOrder Q) (k : K) (x y : X) → is_eq (Q k (key x)) ≡ true → is_eq (Q k (key y)) ≡ true
    → is_above (Q (key x) (key y)) ≡ true → ⊥
together key Q t k x y ex ey above =
    let equal : Q (key x) (key y) ≡ Equal = sym (t.congr k (key x) (key y) (is-equal (Q k (key x)) ex)) ∙ is-equal (Q k (key y)) ey in
    true≢false (sym above ∙ ap is_above equal)

pub groups : {X K : Type 0} (key : X → K) (Q : K → K → Ordering) (t : IsTotalOrder Q) (xs : List X)
    → map run_items (cut (same_by (on key Q)) (sorted_by (on key Q) xs)) ≡ map (with_key key Q xs) (sorted_by Q (distinct_by Q (map key xs)))
groups {X} key Q t xs =
    let s : List X = sorted_by (on key Q) xs in
    let o : IsTotalOrder (on key Q) = on_total key t in
    let runs : List (Run X) = cut (same_by (on key Q)) s in
    let keys : map (λ r. key r.0) runs ≡ sorted_by Q (distinct_by Q (map key xs)) =
    ap (map (λ r. key r.0)) (sorted-cut (on key Q) o xs) ∙ runs-keys key Q xs ∙ sym (keys-are Q t (map key xs)) in
    sym (items (on key Q) o s (sorted-rises (on key Q) o xs))
    ∙ (λ i. map (λ (r : Run X). sorted-kept (on key Q) (λ x. is_eq (Q (key r.0) (key x))) (together key Q t (key r.0)) xs i) runs)
    ∙ sym (map-through (with_key key Q xs) (λ r. key r.0) runs)
    ∙ ap (map (with_key key Q xs)) keys
