use Rattle.std.proofs.Common.{◌≡◌, ◌+◌, ◌||◌, Bool, length, ap, ◌∙◌, arith}
use Rattle.ov_catalog.specs.Running.{is_in_target}
use Rattle.ov_catalog.proofs.WholeParts.{parts-within}
use Rattle.ov_catalog.proofs.whole_plans.may_all_leave.Goals as goal

pub are_sources_by-requires-clause-parts : goal.are_sources_by-requires-clause-parts
are_sources_by-requires-clause-parts c =
    let d = c.args.d.now in
    let kept = c.mark_all.auto.seen in
    let long = c.requires.left.0 in
    let size : length c.mark_all.new.seen ≡ length d.versions.items + 1 = omega (arith, kept, long) in
    rw (c.deref.ensures.value, size) (parts-within d c.requires.parts)

pub are_sources_by-requires-clause-long : goal.are_sources_by-requires-clause-long
are_sources_by-requires-clause-long c =
    let kept = c.mark_all.auto.seen in
    let left = c.requires.left.0 in
    let later = c.requires.later.0 in
    omega (arith, kept, left, later)

pub are_sources_by-requires-clause-marks : goal.are_sources_by-requires-clause-marks
are_sources_by-requires-clause-marks c vid = c.mark_all.ensures vid ∙ ap (λ (b : Bool). b || is_in_target c.args.targets.now vid) (c.requires.left.1 vid)
