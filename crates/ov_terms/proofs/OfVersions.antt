-- What says the same of all rows of a version.
use Rattle.std.proofs.Common.{◌≡◌, ◌∷◌, ◌∙◌, [], ℕ, suc, List, ap, ap₂, arith, refl, sym, map}
use Rattle.std.specs.Prelude.{Bool, IfSome, Option, None, Some}
use Rattle.std.specs.List.{All}
use Rattle.ov_terms.specs.Standing.{pairs_at, row_in}
use Rattle.ov_model.specs.Answers.{truth_any, truth_every, truth_not}
use Rattle.ov_model.specs.Book.{Row}
use Rattle.ov_terms.specs.Finding.{IsOfVersion, found_truth, in_version}
use Rattle.ov_terms.specs.declared.found_cond.FoundCond.{FoundCond}
use Rattle.ov_terms.specs.declared.found_cond.FoundCond.TheVariants.{Not, Every, Any}
use Rattle.ov_terms.proofs.FoundTruths.{truth-not, truth-every, truth-any}

-- what a condition of the version says of a row there, it says of all
pub of-any-row : (rows : List Row) (vid : ℕ) (c : FoundCond) (said : Option Bool) (row : Row) → IsOfVersion c
    → said ≡ found_truth (pairs_at rows (record { vid = vid; place = 0 } ∷ [])) c → IfSome said (λ truth. found_truth (in_version vid row ∷ []) c ≡ Some truth)
of-any-row rows vid c None row same is = tt
of-any-row rows vid c (Some truth) row same is = same vid row (row_in rows 0) ∙ sym is

pub not-of-version : (c : FoundCond) → IsOfVersion c → IsOfVersion (Not c)
not-of-version c same vid a b = truth-not (in_version vid a ∷ []) c ∙ ap truth_not (same vid a b) ∙ sym (truth-not (in_version vid b ∷ []) c)

all-same : (cs : List FoundCond) → All IsOfVersion cs → (vid : ℕ) (a b : Row) → map (found_truth (in_version vid a ∷ [])) cs ≡ map (found_truth (in_version vid b ∷ [])) cs
all-same [] all vid a b = refl
all-same (c ∷ cs) all vid a b = ap₂ (λ t ts. t ∷ ts) (all 0 c (omega arith) vid a b) (all-same cs (λ k d lt. all (suc k) d (omega (arith, lt))) vid a b)

pub every-of-version : (cs : List FoundCond) → All IsOfVersion cs → IsOfVersion (Every cs)
every-of-version cs all vid a b =
    truth-every (in_version vid a ∷ []) cs ∙ ap truth_every (all-same cs all vid a b) ∙ sym (truth-every (in_version vid b ∷ []) cs)

pub any-of-version : (cs : List FoundCond) → All IsOfVersion cs → IsOfVersion (Any cs)
any-of-version cs all vid a b =
    truth-any (in_version vid a ∷ []) cs ∙ ap truth_any (all-same cs all vid a b) ∙ sym (truth-any (in_version vid b ∷ []) cs)
