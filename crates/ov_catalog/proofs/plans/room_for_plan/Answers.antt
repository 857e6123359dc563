use Rattle.std.proofs.Common.{ap, sym, subst, ◌∙◌}
use Rattle.std.specs.Prelude.{Some}
use Rattle.ov_catalog.specs.declared.cvd.Cvd.{Cvd}
use Rattle.ov_catalog.specs.Sets.{set_in}
use Rattle.ov_catalog.specs.Ready.{CanBegin}
use Rattle.ov_catalog.proofs.SetLemmas.{find-at}
use Rattle.ov_catalog.proofs.RoomLemmas.{if-ok, only-at}
use Rattle.ov_catalog.proofs.plans.room_for_plan.Goals as goal

pub returns-clause-answer : goal.returns-clause-answer
returns-clause-answer c =
    let d = c.index-sets-at.result in
    let found = c.in-Some.ensures in
    let one = find-at c.args.cvd 0 c.in-Some.at c.args.sets.now d c.requires.ascend found.0 (found.1 d) ∙ ap (λ (x : Cvd). Some (set_in x)) (sym c.index-sets-at.is) in
    rw one c.plan_for.ensures.answer

pub returns-clause-begins : goal.returns-clause-begins
returns-clause-begins c =
    let d = c.index-sets-at.result in
    let found = c.in-Some.ensures in
    if-ok c.plan_for.result _ _ (λ plan can. only-at (CanBegin plan) c.args.cvd 0 c.args.sets.now c.in-Some.at d c.requires.ascend found.0 (found.1 d) (subst (CanBegin plan) c.index-sets-at.is can)) c.plan_for.ensures.begins
