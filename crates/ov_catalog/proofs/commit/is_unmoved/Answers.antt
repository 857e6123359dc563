use Rattle.std.proofs.Common.{◌≡◌, length, ap, sym, subst, ◌∙◌}
use Rattle.std.specs.Prelude.{Option, Some}
use Rattle.ov_catalog.specs.declared.cvd.Plan.{Plan}
use Rattle.ov_catalog.specs.Applying.{is_unmoved}
use Rattle.ov_catalog.specs.Running.{IsPlanned, targets_left}
use Rattle.ov_catalog.specs.Sets.{plan_in}
use Rattle.ov_catalog.proofs.RunLemmas.{targets-ascend}
use Rattle.ov_catalog.proofs.TargetLemmas.{rest-drop, unmoved-in}
use Rattle.ov_catalog.proofs.commit.is_unmoved.Goals as goal

pub is_in-requires : goal.is_in-requires
is_in-requires c =
    let d = c.args.d.now in
    let plan = c.in-Some.plan in
    let is : d.plan ≡ Some plan = c.in-Some.is in
    let runs = subst (λ (o : Option Plan). IsPlanned (length d.versions.items) d.layout.parts o) is c.requires.plan in
    rw (c.as_slice.ensures, rest-drop plan.targets plan.at) (targets-ascend (length d.versions.items) d.layout.parts _ (targets_left plan) runs.targets)

pub returns-in-Some : goal.returns-in-Some
returns-in-Some c =
    let is : c.args.d.now.plan ≡ Some c.in-Some.plan = c.in-Some.is in
    (rw (c.as_slice.ensures, rest-drop c.in-Some.plan.targets c.in-Some.plan.at) at c.is_in.ensures) ∙ sym (unmoved-in (Some c.in-Some.plan) c.args.vid) ∙ ap (λ (o : Option Plan). is_unmoved (plan_in o) c.args.vid) (sym is)
