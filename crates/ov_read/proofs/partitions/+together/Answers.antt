use Rattle.std.proofs.Common.{◌≡◌, ◌<◌, ℕ, List, ◌++◌, length, take, drop, sym, ◌∙◌, ap, subst}
use Rattle.std.specs.Prelude.{Option, MatchOption}
use Rattle.std.proofs.lemmas.List.{take-append-drop}
use Rattle.ov_member.specs.Rids.{shared, IsUnion}
use Rattle.ov_read.specs.Agreement.{AreTogether}
use Rattle.ov_read.proofs.Matching.{ok_option}
use Rattle.ov_read.proofs.Uniting.{part, left_together, right_together, not_together, united}
use Rattle.ov_read.proofs.partitions.+together.Goals as goal

halves : (sets front back : List (List ℕ)) (n : ℕ) → front ≡ take n sets → back ≡ drop n sets → sets ≡ front ++ back
halves sets front back n f b = sym (ap (λ (l : List (List ℕ)). l ++ back) f ∙ ap (λ (l : List (List ℕ)). take n sets ++ l) b ∙ take-append-drop n sets)

found_is : (sets : List (List ℕ)) (found o : Option (List ℕ)) → found ≡ o → MatchOption found ((all : List ℕ) → AreTogether sets all → ⊥) (AreTogether sets) → MatchOption o ((all : List ℕ) → AreTogether sets all → ⊥) (AreTogether sets)
found_is sets found o is h = subst (λ (x : Option (List ℕ)). MatchOption x ((all : List ℕ) → AreTogether sets all → ⊥) (AreTogether sets)) is h

pub returns-in-None : goal.returns-in-None
returns-in-None t c all h =
    let left : List (List ℕ) = c.split_at.result.0.now in
    let right : List (List ℕ) = c.split_at.result.1.now in
    let split = halves c.args.sets.now left right _ c.split_at.ensures.front c.split_at.ensures.back in
    let none = found_is left c.in_ok-together-in_default.field-0 _ c.in-None.is c.in_ok-together-in_default.ensures in
    none (part left all) (left_together left right all (subst (λ (l : List (List ℕ)). AreTogether l all) split h))

pub returns-in-None-2 : goal.returns-in-None-2
returns-in-None-2 t c all h =
    let left : List (List ℕ) = c.split_at.result.0.now in
    let right : List (List ℕ) = c.split_at.result.1.now in
    let split = halves c.args.sets.now left right _ c.split_at.ensures.front c.split_at.ensures.back in
    let none = found_is right c.in_ok-together-in-Some.field-0 _ c.in-None-2.is c.in_ok-together-in-Some.ensures in
    none (part right all) (right_together left right all (subst (λ (l : List (List ℕ)). AreTogether l all) split h))

pub returns : goal.returns
returns t c =
    let xs : List (List ℕ) = c.split_at.result.0.now in
    let ys : List (List ℕ) = c.split_at.result.1.now in
    let left = c.in-Some.left in
    let right = c.in-Some-2.right in
    let split = halves c.args.sets.now xs ys _ c.split_at.ensures.front c.split_at.ensures.back in
    let hx = found_is xs c.in_ok-together-in_default.field-0 _ c.in-Some.is c.in_ok-together-in_default.ensures in
    let hy = found_is ys c.in_ok-together-in-Some.field-0 _ c.in-Some-2.is c.in_ok-together-in-Some.ensures in
    ok_option c.united.result (0 < length (shared left right)) ((all : List ℕ) → AreTogether c.args.sets.now all → ⊥)
    (λ all. (length (shared left right) ≡ 0) × IsUnion left right all) (AreTogether c.args.sets.now)
    (λ some all h. not_together xs ys left right all hx hy some (subst (λ (l : List (List ℕ)). AreTogether l all) split h))
    (λ all is. subst (λ (l : List (List ℕ)). AreTogether l all) (sym split) (united xs ys left right all hx hy is.0 is.1)) c.united.ensures
