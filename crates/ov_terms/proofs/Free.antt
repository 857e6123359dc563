-- Conditions that name no lineage.
use Rattle.std.proofs.Common.{◌≡◌, ◌++◌, ◌∷◌, ◌∙◌, [], ℕ, zero, suc, List, ap, map, refl, arith}
use Rattle.std.specs.List.{All}
use Rattle.ov_model.specs.Asking.{cond_lineages}
use Rattle.ov_model.specs.Lists.{joined}
use Rattle.ov_model.specs.declared.query.Cond.{Cond}
use Rattle.ov_terms.specs.Standing.{NoLineage}

-- where all of them name none, so does each
left-nil : (xs ys : List ℕ) → xs ++ ys ≡ [] → xs ≡ []
left-nil [] ys e = refl
left-nil (x ∷ xs) ys e = cc

right-nil : (xs ys : List ℕ) → xs ++ ys ≡ [] → ys ≡ []
right-nil [] ys e = e
right-nil (x ∷ xs) ys e = cc

pub each-free : (cs : List Cond) → joined (map cond_lineages cs) ≡ [] → All NoLineage cs
each-free [] e k d lt = absurd (omega arith)
each-free (c ∷ cs) e zero d lt = left-nil (cond_lineages c) _ e
each-free (c ∷ cs) e (suc k) d lt = each-free cs (right-nil (cond_lineages c) _ e) k d (omega (arith, lt))

pub all-free : (cs : List Cond) → All NoLineage cs → joined (map cond_lineages cs) ≡ []
all-free [] all = refl
all-free (c ∷ cs) all =
    ap (λ l. l ++ joined (map cond_lineages cs)) (all 0 c (omega arith)) ∙ all-free cs (λ k d lt. all (suc k) d (omega (arith, lt)))
