use Rattle.std.proofs.Common.{rules, of_z, to_z, w64}
use Rattle.std.specs.Prelude.{pos, slice_index_or}
use Rattle.ov_tally.proofs.Marks.{few_next, pushed_each, sum_next}
use Rattle.ov_tally.proofs.times.summed.Goals as goal

pub next_sum-sum-requires : goal.next_sum-sum-requires
next_sum-sum-requires c =
    few_next c.args.marks.now c.loop-mark.mark-index (pos 0) (to_z w64 c.loop-mark.sum-bits) (to_z w64 (of_z w64 (slice_index_or c.args.marks.now c.loop-mark.mark-index (pos 0)))) c.loop-mark-test.true (search rules) (search rules) (c.requires c.loop-mark.mark-index c.loop-mark-test.true)

pub loop-mark-preserved : goal.loop-mark-preserved
loop-mark-preserved c =
    let mark = to_z w64 (of_z w64 (slice_index_or c.args.marks.now c.loop-mark.mark-index (pos 0))) in
    let more = sum_next c.args.marks.now c.loop-mark.mark-index (pos 0) c.loop-mark.sum mark c.next_sum-sum.result c.loop-mark-test.true (search rules) (search rules) (search rules) in
    record {
      sum = search (rules, more);
      count = search rules;
      each = pushed_each c.args.marks.now c.loop-mark.made.items _ c.loop-mark.mark-index c.next_sum-sum.result (search rules) (search rules) more c.loop-mark.invariant.each;
    }
