use Rattle.std.proofs.Common.{◌∙◌, sym}
use Rattle.ov_terms.specs.Standing.{pairs_at}
use Rattle.ov_qrun.proofs.Cutting.{not-empty}
use Rattle.ov_qrun.proofs.Meaning.{is-zero, map-through, one-group, run-groups}
use Rattle.ov_qrun.proofs.run.groups_in.Goals as goal

pub returns-then-is_empty : goal.returns-then-is_empty
returns-then-is_empty c = λ all is.
    let plan = c.args.plan.now in
    rw (c.in_ok-push.ensures.items, c.new-found.ensures.items)
    (one-group plan.shape.now c.args.table.now plan.query.now.groups plan.groups.items c.args.spots.now all c.requires.plan.groups
    (is-zero _ (sym c.if-is_empty.true ∙ (rw c.as_slice.ensures at c.is_empty.ensures))) is)

pub returns : goal.returns
returns c = λ all is.
    let plan = c.args.plan.now in
    sym (map-through (pairs_at c.args.table.now) (λ group. group.now) c.in_ok-found.found.items)
    ∙ run-groups plan.shape.now c.args.table.now plan.query.now.groups plan.groups.items c.args.spots.now all _ c.requires.plan.groups c.requires.fit
    (not-empty _ (sym c.if-is_empty.false ∙ (rw c.as_slice.ensures at c.is_empty.ensures))) is (rw c.as_slice-2.ensures.value at c.in_ok-found.ensures)
