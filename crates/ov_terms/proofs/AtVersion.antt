-- What is made of a condition for one version says the same there.
use Rattle.std.proofs.Common.{◌≡◌, ◌∷◌, ◌∙◌, [], ℕ, List, ap, sym, map}
use Rattle.ov_model.specs.Answers.{truth_any, truth_every, truth_not}
use Rattle.ov_model.specs.Book.{Row}
use Rattle.ov_terms.specs.Finding.{SaysSame, found_truth, in_version}
use Rattle.ov_terms.specs.declared.found_cond.FoundCond.{FoundCond}
use Rattle.ov_terms.specs.declared.found_cond.FoundCond.TheVariants.{Not, Every, Any}
use Rattle.ov_terms.proofs.FoundTruths.{truth-any, truth-every, truth-not}

-- each of these says the same there as the one at its place
abbrev pub AllSame : ℕ → List FoundCond → List FoundCond → Type 0
AllSame vid found made = (row : Row) → map (found_truth (in_version vid row ∷ [])) made ≡ map (found_truth (in_version vid row ∷ [])) found

pub same-not : (vid : ℕ) (found made : FoundCond) → SaysSame vid found made → SaysSame vid (Not found) (Not made)
same-not vid found made same row =
    truth-not (in_version vid row ∷ []) made ∙ ap truth_not (same row) ∙ sym (truth-not (in_version vid row ∷ []) found)

pub same-every : (vid : ℕ) (found made : List FoundCond) → AllSame vid found made → SaysSame vid (Every found) (Every made)
same-every vid found made same row =
    truth-every (in_version vid row ∷ []) made ∙ ap truth_every (same row) ∙ sym (truth-every (in_version vid row ∷ []) found)

pub same-any : (vid : ℕ) (found made : List FoundCond) → AllSame vid found made → SaysSame vid (Any found) (Any made)
same-any vid found made same row =
    truth-any (in_version vid row ∷ []) made ∙ ap truth_any (same row) ∙ sym (truth-any (in_version vid row ∷ []) found)
