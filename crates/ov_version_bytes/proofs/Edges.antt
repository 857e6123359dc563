-- Parents with the weights of their edges.
use Rattle.std.proofs.Common.{◌≡◌, ◌≤◌, ◌<◌, ◌^◌, ℕ, zero, suc, List, [], ◌∷◌, ◌++◌, length, drop, map, get_or, refl, sym, ◌∙◌, ap, arith, append_assoc}
use Rattle.std.specs.Prelude.{min}
use Rattle.std.specs.List.{All, AllByRecursion, zip}
use Rattle.std.proofs.lemmas.List.{append-nil}
use Rattle.std.proofs.lemmas.List.Elements.{All-nil, All-cons, All-head, All-tail}
use Rattle.ov_event.specs.Fields.{IsU32}
use Rattle.ov_event.specs.Spelling.{AreParents}
use Rattle.ov_model.specs.Records.{Rec, of_version, weight, weights}

next_pair : (ps ws : List ℕ) (i : ℕ) → i < length ps → i < length ws
    → zip (drop i ps) (drop i ws) ≡ (get_or ps i 0, get_or ws i 0) ∷ zip (drop (suc i) ps) (drop (suc i) ws)
next_pair [] ws i here there = absurd (omega (arith, here))
next_pair (p ∷ ps) [] i here there = absurd (omega (arith, there))
next_pair (p ∷ ps) (w ∷ ws) zero here there = refl
next_pair (p ∷ ps) (w ∷ ws) (suc i) here there = next_pair ps ws i (omega (arith, here)) (omega (arith, there))

pub pair_more : (done all : List (ℕ × ℕ)) (ps ws : List ℕ) (i : ℕ) → i < length ps → i < length ws → done ++ zip (drop i ps) (drop i ws) ≡ all
    → (done ++ (get_or ps i 0, get_or ws i 0) ∷ []) ++ zip (drop (suc i) ps) (drop (suc i) ws) ≡ all
pair_more done all ps ws i here there so_far =
    append_assoc done ((get_or ps i 0, get_or ws i 0) ∷ []) (zip (drop (suc i) ps) (drop (suc i) ws))
    ∙ ap (λ l. done ++ l) (sym (next_pair ps ws i here there))
    ∙ so_far

none_right : (xs : List ℕ) → zip {X = ℕ} xs [] ≡ []
none_right [] = refl
none_right (x ∷ xs) = refl

none_left : (ps ws : List ℕ) (n : ℕ) → min (length ps) (length ws) ≤ n → zip (drop n ps) (drop n ws) ≡ []
none_left [] ws zero few = refl
none_left [] ws (suc n) few = refl
none_left (p ∷ ps) [] zero few = refl
none_left (p ∷ ps) [] (suc n) few = none_right (drop n ps)
none_left (p ∷ ps) (w ∷ ws) zero few = absurd (omega (arith, few))
none_left (p ∷ ps) (w ∷ ws) (suc n) few = none_left ps ws n (omega (arith, few))

pub pairs_done : (done all : List (ℕ × ℕ)) (ps ws : List ℕ) (n : ℕ) → min (length ps) (length ws) ≤ n → done ++ zip (drop n ps) (drop n ws) ≡ all → done ≡ all
pairs_done done all ps ws n few so_far = sym (append-nil done) ∙ ap (λ l. done ++ l) (sym (none_left ps ws n few)) ∙ so_far

-- ---- they have a spelling

pub all_low : (xs : List ℕ) → ((i : ℕ) → get_or xs i 0 < 2 ^ 32) → All (λ n. n < 2 ^ 32) xs
all_low [] each = All-nil (λ n. n < 2 ^ 32)
all_low (x ∷ xs) each = All-cons (λ n. n < 2 ^ 32) x xs (each zero) (all_low xs (λ i. each (suc i)))

zip_few : (ps ws : List ℕ) → length (zip ps ws) ≤ length ps
zip_few [] ws = omega arith
zip_few (p ∷ ps) [] = omega arith
zip_few (p ∷ ps) (w ∷ ws) = omega (arith, zip_few ps ws)

zip_low : (ps ws : List ℕ) → All (λ p. p < 2 ^ 32) ps → All (λ w. w < 2 ^ 32) ws → AllByRecursion (λ (e : ℕ × ℕ). IsU32 e.0 × IsU32 e.1) (zip ps ws)
zip_low [] ws vids low = tt
zip_low (p ∷ ps) [] vids low = tt
zip_low (p ∷ ps) (w ∷ ws) vids low = (
  (All-head (λ n. n < 2 ^ 32) p ps vids, All-head (λ n. n < 2 ^ 32) w ws low),
  zip_low ps ws (All-tail (λ n. n < 2 ^ 32) p ps vids) (All-tail (λ n. n < 2 ^ 32) w ws low),
)

pub parents_spelled : (ps ws : List ℕ) → length ps < 2 ^ 16 → All (λ p. p < 2 ^ 32) ps → All (λ w. w < 2 ^ 32) ws → AreParents (zip ps ws)
parents_spelled ps ws few vids low = (omega (arith, few, zip_few ps ws), zip_low ps ws vids low)

-- ---- and are those of the World

pub weights_zip : (ps : List ℕ) (rs : List Rec) (done : List (List Rec)) → zip ps (map (λ w. w.1) (weights ps rs done)) ≡ weights ps rs done
weights_zip [] rs done = refl
weights_zip (p ∷ ps) rs done = ap (λ es. (p, weight rs (of_version done p)) ∷ es) (weights_zip ps rs done)
