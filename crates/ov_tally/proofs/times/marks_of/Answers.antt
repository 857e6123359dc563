use Rattle.std.proofs.Common.{rules, ◌+◌, ◌*◌, ◌^◌, length}
use Rattle.ov_tally.proofs.Marks.{none_total, none_within, version_more, within_up}
use Rattle.ov_tally.proofs.times.marks_of.Goals as goal

pub loop-spans-init : goal.loop-spans-init
loop-spans-init c = record {
  count = search rules;
  totals = λ p. none_total c.in_ok-marks.marks.items p c.in_ok-marks.ensures.all;
  within = none_within c.in_ok-marks.marks.items c.in_ok-marks.ensures.all;
}

pub loop-spans-preserved : goal.loop-spans-preserved
loop-spans-preserved c = record {
  count = search rules;
  totals = λ p. version_more c.args.versions.now c.loop-spans.spans-index p c.spans-item.result c.as_slice.result.now _ _ c.loop-spans-test.true c.spans-item.is c.as_slice.ensures.value (c.loop-spans.invariant.totals p) (c.mark_spans.ensures.totals p);
  within = within_up (c.loop-spans.spans-index * 2 ^ 31 + 2 * length c.as_slice.result.now) ((c.loop-spans.spans-index + 1) * 2 ^ 31) c.mark_spans.new.sums.items (search rules) (c.mark_spans.ensures.within (c.loop-spans.spans-index * 2 ^ 31) c.loop-spans.invariant.within);
}
