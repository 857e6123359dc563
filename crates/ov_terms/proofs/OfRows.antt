-- What says the same of a row in every version.
use Rattle.std.proofs.Common.{◌≡◌, ◌<◌, ◌+◌, ◌++◌, ◌∷◌, ◌∙◌, [], ℕ, suc, List, Bool, add-one, ap, ap₂, arith, refl, sym, get_or, length, map, take, take-suc}
use Rattle.std.specs.Prelude.{Option}
use Rattle.std.specs.List.{All}
use Rattle.std.proofs.lemmas.List.{map-append}
use Rattle.ov_model.specs.Answers.{truth_any, truth_every, truth_not}
use Rattle.ov_model.specs.Book.{Row}
use Rattle.ov_terms.specs.Finding.{IsOfRow, found_truth, in_version, is_taken, verdicts}
use Rattle.ov_terms.specs.Standing.{pair_at}
use Rattle.ov_terms.specs.declared.found_cond.FoundCond.{FoundCond}
use Rattle.ov_terms.specs.declared.found_cond.FoundCond.TheVariants.{Not, Every, Any}
use Rattle.ov_terms.proofs.FoundTruths.{truth-not, truth-every, truth-any}

pub not-of-row : (c : FoundCond) → IsOfRow c → IsOfRow (Not c)
not-of-row c same v w row = truth-not (in_version v row ∷ []) c ∙ ap truth_not (same v w row) ∙ sym (truth-not (in_version w row ∷ []) c)

all-same : (cs : List FoundCond) → All IsOfRow cs → (v w : ℕ) (row : Row) → map (found_truth (in_version v row ∷ [])) cs ≡ map (found_truth (in_version w row ∷ [])) cs
all-same [] all v w row = refl
all-same (c ∷ cs) all v w row = ap₂ (λ t ts. t ∷ ts) (all 0 c (omega arith) v w row) (all-same cs (λ k d lt. all (suc k) d (omega (arith, lt))) v w row)

pub every-of-row : (cs : List FoundCond) → All IsOfRow cs → IsOfRow (Every cs)
every-of-row cs all v w row =
    truth-every (in_version v row ∷ []) cs ∙ ap truth_every (all-same cs all v w row) ∙ sym (truth-every (in_version w row ∷ []) cs)

pub any-of-row : (cs : List FoundCond) → All IsOfRow cs → IsOfRow (Any cs)
any-of-row cs all v w row = truth-any (in_version v row ∷ []) cs ∙ ap truth_any (all-same cs all v w row) ∙ sym (truth-any (in_version w row ∷ []) cs)

-- what WHERE says of one row more
pub verdict-more : (guard : Option FoundCond) (rows : List Row) (made : List Bool) (i : ℕ) (taken : Bool) → i < length rows
    → taken ≡ is_taken guard (pair_at rows (record { vid = 0; place = i })) → made ≡ verdicts guard (take i rows)
    → made ++ taken ∷ [] ≡ verdicts guard (take (i + 1) rows)
verdict-more guard rows made i taken lt is before =
    let says : Row → Bool = λ row. is_taken guard (in_version 0 row) in
    let here : take (i + 1) rows ≡ take i rows ++ get_or rows i [] ∷ [] = rw (add-one i) (take-suc rows i [] lt) in
    ap₂ (λ l t. l ++ t ∷ []) before is ∙ sym (ap (verdicts guard) here ∙ map-append says (take i rows) (get_or rows i [] ∷ []))
