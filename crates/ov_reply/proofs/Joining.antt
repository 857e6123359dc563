-- Lists of texts, joined.
use Rattle.std.proofs.Common.{◌≡◌, List, [], ◌∷◌, ◌++◌, ℕ, map, refl, ap, append_assoc}
use Rattle.std.specs.List.{flat_map, concat}
use Rattle.ov_model.specs.Replies.{line}

pub joins : {X : Type 0} (f : X → List ℕ) (xs : List X) → concat (map f xs) ≡ flat_map f xs
joins f [] = refl
joins f (x ∷ xs) = ap (λ rest. f x ++ rest) (joins f xs)

append_nil : (xs : List ℕ) → xs ++ [] ≡ xs
append_nil [] = refl
append_nil (x ∷ xs) = ap (λ rest. x ∷ rest) (append_nil xs)

-- three pieces, and a text behind them
pub three_and : (out a b c text : List ℕ) → (out ++ (a ++ (b ++ (c ++ [])))) ++ text ≡ out ++ (a ++ (b ++ (c ++ (text ++ []))))
three_and out a b c text = simp (append_assoc, append_nil)

-- and a line's end behind that
pub three_and_line : (out a b c text : List ℕ) → ((out ++ (a ++ (b ++ (c ++ [])))) ++ text) ++ line [] ≡ out ++ line (a ∷ b ∷ c ∷ text ∷ [])
unfolding line
three_and_line out a b c text = simp (append_assoc, append_nil)
