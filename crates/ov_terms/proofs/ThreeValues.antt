-- Truths, one after another.
use Rattle.std.proofs.Common.{◌≡◌, ◌<◌, ◌+◌, ◌∷◌, ◌∙◌, [], ℕ, zero, List, Bool, true, false, refl, ap, sym, suc, add-one, arith, length, map, drop, drop-cons, get_or}
use Rattle.std.specs.Prelude.{Option, Some, None}
use Rattle.std.specs.List.{list_any}
use Rattle.ov_model.specs.Answers.{is_true, is_version, truth_and, truth_any, truth_every, truth_or}
use Rattle.ov_model.specs.declared.answer.Cell.TheVariants.{Nothing}

pub none-among : (vids : List ℕ) → list_any (is_version Nothing) vids ≡ false
none-among [] = refl
none-among (vid ∷ vids) = none-among vids

pub and-true : (a : Option Bool) → truth_and a (Some true) ≡ a
and-true None = refl
and-true (Some true) = refl
and-true (Some false) = refl

pub or-false : (a : Option Bool) → truth_or a (Some false) ≡ a
or-false None = refl
or-false (Some true) = refl
or-false (Some false) = refl

pub and-assoc : (a b c : Option Bool) → truth_and (truth_and a b) c ≡ truth_and a (truth_and b c)
and-assoc (Some false) b c = refl
and-assoc (Some true) b c = refl
and-assoc None (Some false) c = refl
and-assoc None (Some true) c = refl
and-assoc None None (Some false) = refl
and-assoc None None (Some true) = refl
and-assoc None None None = refl

pub or-assoc : (a b c : Option Bool) → truth_or (truth_or a b) c ≡ truth_or a (truth_or b c)
or-assoc (Some true) b c = refl
or-assoc (Some false) b c = refl
or-assoc None (Some true) c = refl
or-assoc None (Some false) c = refl
or-assoc None None (Some true) = refl
or-assoc None None (Some false) = refl
or-assoc None None None = refl

and-false : (a : Option Bool) → truth_and a (Some false) ≡ Some false
and-false None = refl
and-false (Some true) = refl
and-false (Some false) = refl

-- all of conditions of which one is false is false
pub has-false : {X : Type 0} (says : X → Option Bool) (xs : List X) (i : ℕ) (x : X) → i < length xs → x ≡ get_or xs i x → says x ≡ Some false
    → truth_every (map says xs) ≡ Some false
has-false says [] i x lt is never = absurd (omega (arith, lt))
has-false says (y ∷ ys) zero x lt is never = ap (λ t. truth_and t (truth_every (map says ys))) (ap says (sym is) ∙ never)
has-false says (y ∷ ys) (suc i) x lt is never =
    ap (truth_and (says y)) (has-false says ys i x (omega (arith, lt)) is never) ∙ and-false (says y)

pub some-true : (b : Bool) → b ≡ is_true (Some b)
some-true true = refl
some-true false = refl

-- one condition more
pub every-more : {X : Type 0} (says : X → Option Bool) (xs : List X) (i : ℕ) (x : X) (so_far all : Option Bool) → i < length xs → x ≡ get_or xs i x
    → all ≡ truth_and so_far (truth_every (map says (drop i xs))) → all ≡ truth_and (truth_and so_far (says x)) (truth_every (map says (drop (i + 1) xs)))
every-more {X} says xs i x so_far all lt is e =
    let here : drop i xs ≡ x ∷ drop (i + 1) xs = rw (add-one i) (drop-cons xs i x lt ∙ ap (λ y. y ∷ drop (suc i) xs) (sym is)) in
    e ∙ ap (λ l. truth_and so_far (truth_every (map says l))) here ∙ sym (and-assoc so_far (says x) (truth_every (map says (drop (i + 1) xs))))

-- one condition more
pub any-more : {X : Type 0} (says : X → Option Bool) (xs : List X) (i : ℕ) (x : X) (so_far all : Option Bool) → i < length xs → x ≡ get_or xs i x
    → all ≡ truth_or so_far (truth_any (map says (drop i xs))) → all ≡ truth_or (truth_or so_far (says x)) (truth_any (map says (drop (i + 1) xs)))
any-more {X} says xs i x so_far all lt is e =
    let here : drop i xs ≡ x ∷ drop (i + 1) xs = rw (add-one i) (drop-cons xs i x lt ∙ ap (λ y. y ∷ drop (suc i) xs) (sym is)) in
    e ∙ ap (λ l. truth_or so_far (truth_any (map says l))) here ∙ sym (or-assoc so_far (says x) (truth_any (map says (drop (i + 1) xs))))

-- what one condition decides, the others don't change
pub and-stops : (so_far later all : Option Bool) → so_far ≡ Some false → all ≡ truth_and so_far later → so_far ≡ all
and-stops so_far later all stops e = stops ∙ sym (e ∙ ap (λ t. truth_and t later) stops)

pub or-stops : (so_far later all : Option Bool) → so_far ≡ Some true → all ≡ truth_or so_far later → so_far ≡ all
or-stops so_far later all stops e = stops ∙ sym (e ∙ ap (λ t. truth_or t later) stops)
