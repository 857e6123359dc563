use Rattle.std.proofs.Common.{◌≡◌, length, subst, arith}
use Rattle.std.specs.Prelude.{Option, Some, None}
use Rattle.ov_catalog.specs.declared.cvd.Plan.{Plan}
use Rattle.ov_catalog.specs.Planning.{copy_off, of_running}
use Rattle.ov_catalog.specs.Running.{IsPlanned}
use Rattle.ov_catalog.specs.Sets.{plan_in}
use Rattle.ov_catalog.proofs.TurnLemmas.{copy-fits}
use Rattle.ov_catalog.proofs.copies.copy.Goals as goal

pub overflow_add-plan : goal.overflow_add-plan
overflow_add-plan c =
    let d = c.args.d.now in
    let plan = c.in-Some.plan in
    let is : d.plan ≡ Some plan = c.in-Some.is in
    let runs = subst (λ (o : Option Plan). IsPlanned (length d.versions.items) d.layout.parts o) is c.requires.set.plan in
    let applies = subst (λ (o : Option Plan). of_running (copy_off c.args.count c.args.segment) (plan_in o) ≡ None) is c.requires.applies in
    let fits = copy-fits (length d.versions.items) d.layout.parts plan c.args.count c.args.segment runs applies in
    omega (arith, fits)
