-- The steps of some targets, target by target.
use Rattle.std.proofs.Common.{◌≡◌, ℕ, ◌+◌, ◌-◌, ◌≤◌, List, [], ◌∷◌, length, take, drop, get_or, refl, subst, arith}
use Rattle.std.proofs.lemmas.Grind.{common_steps}
use Rattle.ov_model.specs.Plans.{missing_of, steps_for, target_steps}
use Rattle.ov_model.specs.Records.{Rec}
use Rattle.ov_model.specs.World.{Dataset, Target}

all-but-first : {X : Type 0} (x : X) (xs : List X) → take (length (x ∷ xs) - 1) (drop 1 (x ∷ xs)) ≡ xs
all-but-first x xs = grind (arith, common_steps)

pub steps-more : (d : Dataset) (ts : List Target) (t : Target) (copied : List (List Rec)) (steps later : ℕ)
    → 1 ≤ length ts → t ≡ get_or ts 0 t → steps ≡ steps_for (length (missing_of d t copied))
    → later ≡ target_steps d (take (length ts - 1) (drop 1 ts)) [] → steps + later ≡ target_steps d ts copied
steps-more d [] t copied steps later some first own others = absurd (omega arith)
steps-more d (x ∷ xs) t copied steps later some first own others =
    let here : steps ≡ steps_for (length (missing_of d x copied)) = subst (λ (u : Target). steps ≡ steps_for (length (missing_of d u copied))) first own in
    let rest : later ≡ target_steps d xs [] = subst (λ (us : List Target). later ≡ target_steps d us []) (all-but-first x xs) others in
    rw (here, rest) refl
