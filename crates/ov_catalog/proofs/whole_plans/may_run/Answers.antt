use Rattle.std.proofs.Common.{◌≡◌, ◌-◌, List, true, drop, length, map, take, sym, subst, ap, ◌∙◌, arith}
use Rattle.ov_catalog.specs.declared.cvd.Target.{Target}
use Rattle.ov_catalog.specs.Running.{is_in_target}
use Rattle.ov_catalog.specs.Sets.{target_in}
use Rattle.ov_catalog.specs.Wholes.{are_targets}
use Rattle.ov_catalog.proofs.RoomLemmas.{if-ok}
use Rattle.ov_catalog.proofs.TargetLemmas.{rest-drop}
use Rattle.ov_catalog.proofs.WholeMarks.{plan-rest}
use Rattle.ov_catalog.proofs.WholePlans.{targets-there, tested-drop}
use Rattle.ov_catalog.proofs.whole_plans.may_run.Goals as goal

pub are_sources-requires-clause-within : goal.are_sources-requires-clause-within
are_sources-requires-clause-within c vid is =
    let d = c.args.d.now in
    let at = c.args.plan.now.at in
    let ts = c.as_slice-targets.result.now in
    let count = length d.versions.items in
    let are : are_targets count d.records (map target_in ts) ≡ true = sym c.in_ok-are_targets.ensures ∙ c.if-branch.true in
    let there = subst (λ (xs : List Target). is_in_target xs vid ≡ true) (rest-drop ts at) is in
    let le = targets-there count d.records (drop at ts) (tested-drop count d.records at ts are) vid there in
    omega (arith, le)

pub returns-then-branch : goal.returns-then-branch
returns-then-branch c =
    let d = c.args.d.now in
    let plan = c.args.plan.now in
    let ts = c.as_slice-targets.result.now in
    let count = length d.versions.items in
    let are : are_targets count d.records (map target_in plan.targets) ≡ true =
    ap (λ (xs : List Target). are_targets count d.records (map target_in xs)) (sym c.as_slice-targets.ensures) ∙ sym c.in_ok-are_targets.ensures ∙ c.if-branch.true in
    let left : take (length ts - plan.at) (drop plan.at ts) ≡ drop plan.at plan.targets = rest-drop ts plan.at ∙ ap (λ (xs : List Target). drop plan.at xs) c.as_slice-targets.ensures in
    if-ok c.are_sources.result _ _ (λ may is. is ∙ plan-rest d plan (take (length ts - plan.at) (drop plan.at ts)) left (sym c.is_current.ensures ∙ c.if-is_current.true) are) c.are_sources.ensures
