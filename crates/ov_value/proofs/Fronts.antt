-- Bytes that stay in front while more are appended.
use Rattle.std.proofs.Common.{◌≡◌, ℕ, List, [], ◌∷◌, ◌++◌, length, take, refl}

-- what is in front of a front is in front
pub front_of : (a b n : List ℕ) → take (length (a ++ b)) n ≡ a ++ b → take (length a) n ≡ a
front_of [] b n e = refl
front_of (x ∷ a) b [] e = cc
front_of (x ∷ a) b (y ∷ n) e =
    let heads : y ≡ x = cc in
    let tails : take (length (a ++ b)) n ≡ a ++ b = cc in
    λ i. heads i ∷ front_of a b n tails i

-- more behind changes no front
pub front_push : (a n more : List ℕ) → take (length a) n ≡ a → take (length a) (n ++ more) ≡ a
front_push [] n more e = refl
front_push (x ∷ a) [] more e = cc
front_push (x ∷ a) (y ∷ n) more e =
    let heads : y ≡ x = cc in
    let tails : take (length a) n ≡ a = cc in
    λ i. heads i ∷ front_push a n more tails i
