use Rattle.std.proofs.Common.{take, get_or}
use Rattle.std.proofs.lemmas.List.{take_more}
use Rattle.ov_host.specs.declared.area.Extent.{Extent}
use Rattle.ov_open.proofs.Counting.{first_more}
use Rattle.ov_open.proofs.missing.first_missing.Goals as goal

pub loop-extent-preserved : goal.loop-extent-preserved
loop-extent-preserved c =
    let none : Extent = record { page = 0; bytes = 0 } in
    rw (c.lesser-missing.ensures, take_more c.args.extents.now c.loop-extent.extent-index none c.loop-extent-test.true)
    (first_more (take c.loop-extent.extent-index c.args.extents.now) (get_or c.args.extents.now c.loop-extent.extent-index none) c.args.there c.loop-extent.missing c.first_of.result c.loop-extent.invariant c.first_of.ensures)
