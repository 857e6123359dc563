use Rattle.std.proofs.Common.{◌≡◌, ap}
use Rattle.ov_host.specs.declared.area.Extent.{Extent}
use Rattle.ov_catalog.specs.Numbers.{SetNumbers}
use Rattle.ov_catalog.specs.Raw.{raw_plan}
use Rattle.ov_catalog.specs.Sets.{plan_in}
use Rattle.ov_catalog.proofs.WholeLemmas.{tested}
use Rattle.ov_catalog.proofs.WholePlans.{threshold-said}
use Rattle.ov_catalog.proofs.wholes.restored.Goals as goal

pub set_of-requires-clause-said : goal.set_of-requires-clause-said
set_of-requires-clause-said c =
    let draft = c.in_ok-draft.draft in
    let kept = c.in_ok-draft.ensures in
    let same : plan_in draft.plan ≡ raw_plan c.args.said.p c.args.said.q c.args.said.plan = ap (λ (d : SetNumbers Extent Extent). d.plan) kept.numbers in
    threshold-said draft.p draft.q draft.plan c.args.said.plan (tested draft c.in_ok-check.ensures).threshold (rw (kept.said.1, kept.said.2) same)
