use Rattle.std.proofs.Common.{◌∙◌, sym, ap, subst, arith}
use Rattle.ov_event.specs.Fields.{IsExtent, IsText}
use Rattle.ov_core.specs.Brought.{extent_at}
use Rattle.ov_version_bytes.proofs.Fitting.{extent_fits}
use Rattle.ov_version_bytes.proofs.Following.{commit_spelled}
use Rattle.ov_version_bytes.proofs.next.commit_of.Goals as goal

pub returns-clause-event : goal.returns-clause-event
returns-clause-event c =
    commit_spelled c.args.cvd c.args.vid c.in_ok-copy_of.field-0 c.args.parents c.args.rows c.args.fresh c.placed_of.result c.args.runs.now.added c.unplaced.result c.unplaced-2.result
    (omega (arith, c.ranges.cvd.fits)) (omega (arith, c.ranges.vid.fits))
    (subst IsText (sym c.in_ok-copy_of.ensures.copy) (c.in_ok-copy_of.ensures.text, c.requires.message))
    c.requires.parents (omega (arith, c.ranges.rows.fits)) (omega (arith, c.ranges.fresh.fits)) c.placed_of.ensures.spelled (omega (arith, c.requires.added, c.ranges.rows.fits))
    (subst IsExtent (sym (c.unplaced.ensures ∙ ap (extent_at 0) c.as_slice.ensures.value)) (extent_fits c.args.runs.now.list.items c.requires.list))
    (subst IsExtent (sym (c.unplaced-2.ensures ∙ ap (extent_at 0) c.as_slice-2.ensures.value)) (extent_fits c.args.runs.now.segment.items c.requires.segment))
