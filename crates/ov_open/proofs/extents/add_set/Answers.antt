use Rattle.ov_open.proofs.Added.{added}
use Rattle.ov_open.proofs.extents.add_set.Goals as goal

pub returns : goal.returns
returns c =
    added c.args.d.now c.args.extents.now.items c.add_lists.new.extents.items c.add_segments.new.extents.items c.add_plan.new.extents.items
    (rw c.deref.ensures.value at c.in_ok-add_lists.ensures) (rw c.parts.ensures.parts at c.in_ok-add_segments.ensures) c.in_ok-add_plan.ensures
