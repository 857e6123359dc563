use Rattle.std.proofs.Common.{◌≡◌, ℕ, List, true, subst, ap, ◌∙◌, arith}
use Rattle.ov_layout.specs.Parts.{has}
use Rattle.ov_catalog.specs.declared.cvd.Target.{Target}
use Rattle.ov_catalog.proofs.WholeMarks.{target-at}
use Rattle.ov_catalog.proofs.whole_plans.mark_all.Goals as goal

pub mark-requires : goal.mark-requires
mark-requires c vid is =
    let slice = c.as_slice.ensures ∙ ap (λ (x : Target). x.versions) c.target-item.is in
    let low = c.requires vid (target-at c.args.targets.now c.loop-target.target-index vid c.target-item.result c.loop-target-test.true (subst (λ (vs : List ℕ). has vs vid ≡ true) slice is)) in
    let kept = c.loop-target.auto.seen in
    omega (arith, low, kept)
