-- Loops over a list whose items may have no value.
use Rattle.std.proofs.Common.{◌≡◌, List, [], ◌∷◌, ◌++◌, map, Option, Some, None, refl, sym, ◌∙◌, ap, append_assoc}
use Rattle.std.specs.Option.{option_map, option_and_then}
use Rattle.ov_model.specs.Values.{all_some}

pub joined : {Y : Type 0} (ys : List Y) (y : Y) (rest : Option (List Y)) → option_map (λ more. ys ++ more) (option_map (λ more. y ∷ more) rest) ≡ option_map (λ more. ys ++ y ∷ [] ++ more) rest
joined ys y None = refl
joined ys y (Some more) = ap Some (sym (append_assoc ys (y ∷ []) more))

-- what is left begins with an item that has a value
pub all_some_next : {X Y : Type 0} (f : X → Option Y) (all : Option (List Y)) (ys : List Y) (left later : List X) (x : X) (y : Y) → left ≡ x ∷ later → f x ≡ Some y → all ≡ option_map (λ more. ys ++ more) (all_some f left) → all ≡ option_map (λ more. ys ++ y ∷ [] ++ more) (all_some f later)
all_some_next f all ys left later x y is value so_far =
    so_far
    ∙ ap (λ l. option_map (λ more. ys ++ more) (all_some f l)) is
    ∙ ap (λ o. option_map (λ more. ys ++ more) (option_and_then (λ z. option_map (λ zs. z ∷ zs) (all_some f later)) o)) value
    ∙ joined ys y (all_some f later)

-- what is left begins with an item that has none
pub all_some_none : {X Y : Type 0} (f : X → Option Y) (all : Option (List Y)) (ys : List Y) (left later : List X) (x : X) → left ≡ x ∷ later → f x ≡ None → all ≡ option_map (λ more. ys ++ more) (all_some f left) → all ≡ None
all_some_none f all ys left later x is value so_far =
    so_far
    ∙ ap (λ l. option_map (λ more. ys ++ more) (all_some f l)) is
    ∙ ap (λ o. option_map (λ more. ys ++ more) (option_and_then (λ z. option_map (λ zs. z ∷ zs) (all_some f later)) o)) value

pub all_some_map : {W X Y : Type 0} (f : X → Option Y) (g : W → X) (ws : List W) → all_some f (map g ws) ≡ all_some (λ w. f (g w)) ws
all_some_map f g [] = refl
all_some_map f g (w ∷ ws) = ap (λ rest. option_and_then (λ y. option_map (λ ys. y ∷ ys) rest) (f (g w))) (all_some_map f g ws)

pub append_nil : {Y : Type 0} (ys : List Y) → ys ++ [] ≡ ys
append_nil [] = refl
append_nil (y ∷ ys) = ap (λ rest. y ∷ rest) (append_nil ys)
