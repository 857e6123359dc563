use Rattle.std.proofs.Common.{List, length, ap, sym, ◌∙◌}
use Rattle.ov_pages.specs.declared.live.Run.{Run}
use Rattle.ov_pages.proofs.RunLemmas.{none_from, are_reserved}
use Rattle.ov_pages.proofs.pages.Pages.of.Goals as goal

pub returns : goal.returns
returns c =
    let low = sym c.first_too_high.ensures ∙ none_from _ c.in_default.not-Some in
    let made = rw c.deref.ensures.value at c.in_ok-edges.ensures.edges in
    let count = c.len.ensures ∙ sym c.deref.ensures.len ∙ ap (λ (xs : List Run). length xs) c.deref.ensures.value in
    record { reserved = are_reserved _ _ _ _ low c.in_ok-runs.ensures.runs made count; cause = tt }
