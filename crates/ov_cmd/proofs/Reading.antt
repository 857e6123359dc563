-- Options that are read one after another.
use Rattle.std.proofs.Common.{◌≡◌, ◌≤◌, ◌+◌, ◌-◌, take, ℕ, List, [], ◌∷◌, length, drop, get_or, refl, sym, ◌∙◌, ap, arith}
use Rattle.std.specs.Prelude.{Ok, Err}
use Rattle.ov_model.specs.declared.given.Given.{Given}
use Rattle.ov_model.specs.declared.refusal.Refusal.{Refusal}
use Rattle.ov_model.specs.Forms.{Choice}
use Rattle.ov_model.specs.Line.{and_then, one_option, read_options}

one_more : (choices : List Choice) (before : List Given) (options : List (List ℕ × Given)) (nth : ℕ) (l v : List ℕ) (words : List (List ℕ)) (more : List (List ℕ × Given)) → one_option choices before options nth l v ≡ Ok more → read_options choices before options nth (l ∷ v ∷ words) ≡ read_options choices before more (nth + 2) words
one_more choices before options nth l v words more one = ap (and_then (λ m. read_options choices before m (nth + 2) words)) one

one_refused : (choices : List Choice) (before : List Given) (options : List (List ℕ × Given)) (nth : ℕ) (l v : List ℕ) (words : List (List ℕ)) (refusal : Refusal) → one_option choices before options nth l v ≡ Err refusal → read_options choices before options nth (l ∷ v ∷ words) ≡ Err refusal
one_refused choices before options nth l v words refusal one = ap (and_then (λ m. read_options choices before m (nth + 2) words)) one

take_length : {X : Type 0} (xs : List X) → take (length xs) xs ≡ xs
take_length [] = refl
take_length (x ∷ xs) = ap (λ rest. x ∷ rest) (take_length xs)

behind_two : {X : Type 0} (a b : X) (xs : List X) → take (length (a ∷ b ∷ xs) - 2) (drop 2 (a ∷ b ∷ xs)) ≡ xs
behind_two a b xs = let e : length (a ∷ b ∷ xs) - 2 ≡ length xs = omega arith in rw e (take_length xs)

-- the words begin with an option and its value
pub two_more : (choices : List Choice) (before same : List Given) (options : List (List ℕ × Given)) (nth : ℕ) (words : List (List ℕ)) (x y l v : List ℕ) (more : List (List ℕ × Given)) → x ≡ get_or words 0 x → y ≡ get_or words 1 y → 2 ≤ length words → l ≡ x → v ≡ y → same ≡ before → one_option choices same options nth l v ≡ Ok more → read_options choices before options nth words ≡ read_options choices before more (nth + 2) (take (length words - 2) (drop 2 words))
two_more choices before same options nth [] x y l v more first second some is_l is_v is one = absurd (omega (arith, some))
two_more choices before same options nth (a ∷ []) x y l v more first second some is_l is_v is one = absurd (omega (arith, some))
two_more choices before same options nth (a ∷ b ∷ words) x y l v more first second some is_l is_v is one =
    one_more choices before options nth a b words more
    (ap (λ k. one_option choices before options nth k b) (sym (is_l ∙ first))
    ∙ ap (λ k. one_option choices before options nth l k) (sym (is_v ∙ second))
    ∙ ap (λ k. one_option choices k options nth l v) (sym is)
    ∙ one)
    ∙ ap (read_options choices before more (nth + 2)) (sym (behind_two a b words))
