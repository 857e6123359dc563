-- The first run of a list, and those behind it.
use Rattle.std.proofs.Common.{◌≡◌, ◌<◌, ◌≤◌, ◌+◌, ◌-◌, ◌++◌, ◌∷◌, ◌∙◌, [], ℕ, zero, suc, List, Bool, true, false, if◌then◌else◌, ap, ap₂, refl, sym, length, map, drop, take, get_or, length-drop, arith, true≢false, ◌==◌}
use Rattle.std.proofs.lemmas.List.{map-append}
use Rattle.std.proofs.Math.Seq.{append_snoc}
use Rattle.ov_qrun.specs.Runs.{Run, cut, in_front, run_items, run_len}

run-if : {X : Type 0} (same : X → X → Bool) (x y : X) (ys : List X) (b : Bool) (run : Run X) (runs : List (Run X)) → run.0 ≡ y → same x y ≡ b
    → map run_items (run ∷ runs) ≡ take (run_len same (y ∷ ys)) (y ∷ ys) ∷ map run_items (cut same (drop (run_len same (y ∷ ys)) (y ∷ ys)))
    → map run_items (run ∷ runs) ≡ map run_items (cut same (y ∷ ys))
    → map run_items (if b then (x, run.0 ∷ run.1) ∷ runs else (x, []) ∷ run ∷ runs)
    ≡ take (if b then suc (run_len same (y ∷ ys)) else 1) (x ∷ y ∷ ys)
    ∷ map run_items (cut same (drop (if b then suc (run_len same (y ∷ ys)) else 1) (x ∷ y ∷ ys)))
run-if same x y ys true run runs is e before whole =
    ap₂ (λ l ls. (x ∷ l) ∷ ls) (ap (λ l. get_or l 0 []) before) (ap (drop 1) before)
run-if same x y ys false run runs is e before whole = ap (λ ls. (x ∷ []) ∷ ls) whole

-- the first one of a list is that of its first run
abbrev Begins : {X : Type 0} → X → List (Run X) → Type 0
Begins x [] = ⊥
Begins x (run ∷ runs) = run.0 ≡ x

begins-if : {X : Type 0} (b : Bool) (x : X) (run : Run X) (runs : List (Run X)) → Begins x (if b then (x, run.0 ∷ run.1) ∷ runs else (x, []) ∷ run ∷ runs)
begins-if true x run runs = refl
begins-if false x run runs = refl

begins : {X : Type 0} (same : X → X → Bool) (x : X) (runs : List (Run X)) → Begins x (in_front same x runs)
begins same x [] = refl
begins same x (run ∷ runs) = begins-if (same x run.0) x run runs

front : {X : Type 0} (same : X → X → Bool) (x y : X) (ys : List X) (runs : List (Run X)) → Begins y runs
    → map run_items runs ≡ take (run_len same (y ∷ ys)) (y ∷ ys) ∷ map run_items (cut same (drop (run_len same (y ∷ ys)) (y ∷ ys)))
    → map run_items runs ≡ map run_items (cut same (y ∷ ys))
    → map run_items (in_front same x runs) ≡ take (run_len same (x ∷ y ∷ ys)) (x ∷ y ∷ ys) ∷ map run_items (cut same (drop (run_len same (x ∷ y ∷ ys)) (x ∷ y ∷ ys)))
front same x y ys [] begin before whole = absurd begin
front {X} same x y ys (run ∷ runs) begin before whole =
    let b : Bool = same x y in
    ap (λ z. map run_items (if same x z then (x, run.0 ∷ run.1) ∷ runs else (x, []) ∷ run ∷ runs)) begin
    ∙ run-if same x y ys b run runs begin refl before whole

-- a list that isn't empty is its first run and the runs behind that
pub first-of : {X : Type 0} (same : X → X → Bool) (x : X) (xs : List X)
    → map run_items (cut same (x ∷ xs)) ≡ take (run_len same (x ∷ xs)) (x ∷ xs) ∷ map run_items (cut same (drop (run_len same (x ∷ xs)) (x ∷ xs)))
first-of same x [] = refl
first-of same x (y ∷ ys) = front same x y ys (cut same (y ∷ ys)) (begins same y (cut same ys)) (first-of same y ys) refl

-- ---- how long the first run is

pub len-low : {X : Type 0} (same : X → X → Bool) (x : X) (xs : List X) → 1 ≤ run_len same (x ∷ xs)
len-low same x [] = omega arith
len-low same x (y ∷ ys) = low-if (same x y) (run_len same (y ∷ ys)) where
  low-if : (b : Bool) (n : ℕ) → 1 ≤ (if b then suc n else 1)
  low-if true n = omega arith
  low-if false n = omega arith

pub len-high : {X : Type 0} (same : X → X → Bool) (xs : List X) → run_len same xs ≤ length xs
len-high same [] = omega arith
len-high same (x ∷ []) = omega arith
len-high same (x ∷ y ∷ ys) = high-if (same x y) (run_len same (y ∷ ys)) (length ys) (len-high same (y ∷ ys)) where
  high-if : (b : Bool) (n m : ℕ) → n ≤ suc m → (if b then suc n else 1) ≤ suc (suc m)
  high-if true n m le = omega (arith, le)
  high-if false n m le = omega arith

-- ---- a loop over them

one-left : {X : Type 0} (same : X → X → Bool) (xs : List X) → length xs ≡ 1 → run_len same xs ≡ 1
one-left same [] e = absurd (omega (arith, e))
one-left same (x ∷ []) e = refl
one-left same (x ∷ y ∷ ys) e = absurd (omega (arith, e))

-- all neighbours are the same
pub last-run : {X : Type 0} (same : X → X → Bool) (xs : List X) (at : ℕ) → 1 ≤ at → (1 ≤ length xs → at ≤ length xs) → length xs ≤ at
    → run_len same xs ≡ (at - 1) + run_len same (drop (at - 1) xs) → length xs ≡ run_len same xs
last-run same [] at low high end all = refl
last-run same (x ∷ xs) at low high end all =
    let le : at ≤ length (x ∷ xs) = high (omega arith) in
    let dropped : length (drop (at - 1) (x ∷ xs)) ≡ length (x ∷ xs) - (at - 1) = length-drop (at - 1) (x ∷ xs) in
    let one : run_len same (drop (at - 1) (x ∷ xs)) ≡ 1 = one-left same (drop (at - 1) (x ∷ xs)) (omega (arith, dropped, le, low, end)) in
    omega (arith, all, one, le, low, end)

pub not-empty : (n : ℕ) → false ≡ (n == 0) → 0 < n
not-empty zero e = absurd (true≢false (sym e))
not-empty (suc n) e = omega arith

pub len-some : {X : Type 0} (same : X → X → Bool) (xs : List X) → 0 < length xs → 1 ≤ run_len same xs
len-some same [] lt = absurd (omega (arith, lt))
len-some same (x ∷ xs) lt = len-low same x xs

first-some : {X : Type 0} (same : X → X → Bool) (xs : List X) → 0 < length xs
    → map run_items (cut same xs) ≡ take (run_len same xs) xs ∷ map run_items (cut same (drop (run_len same xs) xs))
first-some same [] lt = absurd (omega (arith, lt))
first-some same (x ∷ xs) lt = first-of same x xs

-- one run more
pub runs-more : {A X : Type 0} (now : A → List X) (same : X → X → Bool) (all : List (List X)) (found : List A) (run : A) (rest : List X) (n : ℕ) → 0 < length rest
    → n ≡ run_len same rest → now run ≡ take n rest → all ≡ map now found ++ map run_items (cut same rest)
    → all ≡ map now (found ++ run ∷ []) ++ map run_items (cut same (drop n rest))
runs-more now same all found run rest n some is there before =
    let here : map run_items (cut same rest) ≡ now run ∷ map run_items (cut same (drop n rest)) =
    first-some same rest some ∙ ap (λ k. take k rest ∷ map run_items (cut same (drop k rest))) (sym is)
    ∙ ap (λ l. l ∷ map run_items (cut same (drop n rest))) (sym there) in
    before ∙ ap (λ l. map now found ++ l) here ∙ sym (append_snoc (map now found) (now run) (map run_items (cut same (drop n rest))))
    ∙ ap (λ l. l ++ map run_items (cut same (drop n rest))) (sym (map-append now found (run ∷ [])))
