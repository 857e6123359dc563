use Rattle.std.proofs.Common.{ℕ, Option, List, length, ◌-◌, ap, subst, sym, ◌∙◌}
use Rattle.std.specs.Prelude.{unwrap_or}
use Rattle.std.specs.List.{slice_get}
use Rattle.std.proofs.lemmas.Option.{unwrap_or-slice_get}
use Rattle.ov_pages.specs.Edges.{pages_between}
use Rattle.ov_pages.specs.Sets.{IsHighest}
use Rattle.ov_pages.proofs.FreeLemmas.{highest_is, last_of-at}
use Rattle.ov_pages.proofs.pages.Pages.highest.Goals as goal

pub returns : goal.returns
returns c =
    let edges = c.self.inside.edges.items in
    let found = c.copied.ensures ∙ c.last.ensures.value ∙ ap (λ (xs : List ℕ). slice_get xs (length xs - 1)) c.deref.ensures.value in
    let end = c.unwrap_or.ensures ∙ ap (λ (o : Option ℕ). unwrap_or o 0) found ∙ unwrap_or-slice_get edges (length edges - 1) 0 ∙ last_of-at edges in
    rw (← c.self.view_is) (subst (IsHighest (pages_between edges)) (sym end) (highest_is edges c.self.invariant.0))
