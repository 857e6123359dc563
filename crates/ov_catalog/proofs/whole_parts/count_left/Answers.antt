use Rattle.std.proofs.Common.{ℕ, ◌-◌, length, ap, sym, ◌∙◌}
use Rattle.std.specs.Prelude.{Option, Some}
use Rattle.std.proofs.lemmas.List.{length-drop}
use Rattle.ov_catalog.specs.declared.cvd.Plan.{Plan}
use Rattle.ov_catalog.specs.Sets.{plan_in}
use Rattle.ov_catalog.specs.Wholes.{targets_left}
use Rattle.ov_catalog.proofs.WholeParts.{left-seen}
use Rattle.ov_catalog.proofs.whole_parts.count_left.Goals as goal

pub returns-in-Some : goal.returns-in-Some
returns-in-Some c =
    let plan = c.in-Some.plan in
    c.saturating_sub.ensures ∙ ap (λ (n : ℕ). n - plan.at) c.len.ensures ∙ sym (length-drop plan.at plan.targets) ∙ sym (left-seen (Some plan))
    ∙ ap (λ (o : Option Plan). length (targets_left (plan_in o))) (sym c.in-Some.is)
