-- A list in order, which a sort leaves as it is.
use Rattle.std.proofs.Common.{◌≡◌, ◌≤◌, ◌-◌, ◌∷◌, ◌∙◌, [], ℕ, List, Bool, true, false, if◌then◌else◌, ap, refl, sym, length, drop, length-drop, arith, true≢false, Ordering}
use Rattle.ov_model.specs.Answers.{is_above, placed_by, sorted_by}
use Rattle.ov_qrun.specs.Runs.{climbs}

climb-step : {X : Type 0} (order : X → X → Ordering) (x y : X) (ys : List X) (b : Bool) → is_above (order x y) ≡ b → (if b then false else climbs order (y ∷ ys)) ≡ true
    → (climbs order (y ∷ ys) ≡ true → sorted_by order (y ∷ ys) ≡ y ∷ ys) → sorted_by order (x ∷ y ∷ ys) ≡ x ∷ y ∷ ys
climb-step order x y ys true is e before = absurd (true≢false (sym e))
climb-step order x y ys false is e before = ap (placed_by order x) (before e) ∙ ap (λ t. if t then y ∷ placed_by order x ys else x ∷ y ∷ ys) is

pub climbs-sorted : {X : Type 0} (order : X → X → Ordering) (xs : List X) → climbs order xs ≡ true → sorted_by order xs ≡ xs
climbs-sorted order [] e = refl
climbs-sorted order (x ∷ []) e = refl
climbs-sorted order (x ∷ y ∷ ys) e = climb-step order x y ys (is_above (order x y)) refl e (climbs-sorted order (y ∷ ys))

few-climb : {X : Type 0} (order : X → X → Ordering) (xs : List X) → length xs ≤ 1 → climbs order xs ≡ true
few-climb order [] le = refl
few-climb order (x ∷ []) le = refl
few-climb order (x ∷ y ∷ ys) le = absurd (omega (arith, le))

-- all neighbours were looked at
pub climbs-all : {X : Type 0} (order : X → X → Ordering) (xs : List X) (at : ℕ) → 1 ≤ at → length xs ≤ at → climbs order xs ≡ climbs order (drop (at - 1) xs)
    → true ≡ climbs order xs
climbs-all order xs at low end all =
    let dropped : length (drop (at - 1) xs) ≡ length xs - (at - 1) = length-drop (at - 1) xs in
    sym (all ∙ few-climb order (drop (at - 1) xs) (omega (arith, dropped, low, end)))
