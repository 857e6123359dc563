use Rattle.std.proofs.Common.{inr, ℕ, List, Option, sym, subst, ◌∙◌, refl}
use Rattle.std.specs.Prelude.{IfNone}
use Rattle.ov_member.specs.Lists.{Spells}
use Rattle.ov_fetch.proofs.lists.list_of.Goals as goal

pub returns-clause-answer : goal.returns-clause-answer
returns-clause-answer g c told =
    let read = c.in_ok-bytes.ensures.answer told in
    let bytes = c.as_slice.ensures.value ∙ read.1 in
    let None_ : Option (List ℕ) → Type 0 = λ found. IfNone found ((rids : List ℕ) → Spells c.as_slice.result.now rids → ⊥) in
    let none : (rids : List ℕ) → Spells c.as_slice.result.now rids → ⊥ = subst None_ c.in-None.is c.in_ok-members.ensures.none in
    (refl, inr (λ rids spells. none rids (subst (λ (b : List ℕ). Spells b rids) (sym bytes) spells)))
