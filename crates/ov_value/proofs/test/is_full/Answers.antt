use Rattle.std.proofs.Common.{arith, refl, subst}
use Rattle.ov_value.specs.Plans.{Plan, Walks, plan_of}
use Rattle.ov_value.proofs.FullLemmas.{full_row}
use Rattle.ov_value.proofs.PlanLemmas.{planned}
use Rattle.ov_value.proofs.test.is_full.Goals as goal

pub returns : goal.returns
returns c = λ t.
    let schema = c.args.schema.now in
    let bytes = c.args.bytes.now in
    let walks : Walks (plan_of schema.columns).gaps (plan_of schema.columns).tail bytes = subst (λ (p : Plan). Walks p.gaps p.tail bytes) c.plan.ensures.plan (c.fits.ensures t) in
    let full = planned schema.columns bytes (λ i. omega (arith, c.type_inv.bytes i)) walks in
    full_row schema bytes schema.columns refl c.plan.ensures.sound.key_placed full.can full.kept_are
