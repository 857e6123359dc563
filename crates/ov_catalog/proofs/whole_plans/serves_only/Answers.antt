use Rattle.std.proofs.Common.{◌≡◌, ℕ, Bool, List, true, false, get_or, subst, sym, ap, ◌∙◌}
use Rattle.std.specs.List.{list_all}
use Rattle.ov_layout.specs.Parts.{has}
use Rattle.ov_catalog.proofs.SeenLemmas.{placed-at}
use Rattle.ov_catalog.proofs.WholeMarks.{only-at, only-missing}
use Rattle.ov_catalog.proofs.whole_plans.serves_only.Goals as goal

pub are_marked-requires : goal.are_marked-requires
are_marked-requires c vid there =
    let part = c.index-parts-at.result in
    let own : has (get_or c.args.parts.now c.in-Some.at part).versions vid ≡ true = subst (λ (vs : List ℕ). has vs vid ≡ true) c.as_slice.ensures there in
    c.requires.below vid (placed-at c.args.parts.now c.in-Some.at vid part c.in-Some.ensures.0 own)

pub returns-in-None : goal.returns-in-None
returns-in-None c = sym (only-missing (λ vid. get_or c.args.left.now vid false) c.args.id c.args.parts.now c.in-None.ensures)

pub returns-in-Some : goal.returns-in-Some
returns-in-Some c =
    let parts = c.args.parts.now in
    let part = c.index-parts-at.result in
    let left : ℕ → Bool = λ vid. get_or c.args.left.now vid false in
    c.are_marked.ensures ∙ ap (λ (vs : List ℕ). list_all left vs) c.as_slice.ensures
    ∙ sym (only-at left c.args.id 0 c.in-Some.at parts part c.requires.numbers c.in-Some.ensures.0 (c.in-Some.ensures.1 part))
