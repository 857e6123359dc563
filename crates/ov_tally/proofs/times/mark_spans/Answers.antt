use Rattle.std.proofs.Common.{◌+◌, ◌*◌, ◌^◌, ◌-◌, length, arith, rules}
use Rattle.ov_tally.proofs.Marks.{spans_more, within_more, within_up}
use Rattle.ov_tally.proofs.times.mark_spans.Goals as goal

pub mark-requires-clause-room : goal.mark-requires-clause-room
mark-requires-clause-room c =
    within_up (2 ^ 61 + 2 * c.loop-span.span-index) (2 ^ 62 - 2) c.loop-span.sums.items (let a = c.loop-span-test.true in let b = c.requires.few in omega (arith, a, b)) (c.loop-span.invariant.within (2 ^ 61) c.requires.room)

pub loop-span-preserved : goal.loop-span-preserved
loop-span-preserved c = record {
  count = search rules;
  totals = λ p. spans_more c.args.spans.now c.loop-span.span-index p (record { first = 0; past = 0 }) _ _ _ c.loop-span-test.true (c.loop-span.invariant.totals p) (c.mark.ensures.totals p);
  within = λ n all. within_more n c.loop-span.span-index c.mark.new.sums.items (c.mark.ensures.within (n + 2 * c.loop-span.span-index) (c.loop-span.invariant.within n all));
}

pub returns-clause-within : goal.returns-clause-within
returns-clause-within c n all =
    within_up (n + 2 * c.loop-span.span-index) (n + 2 * length c.args.spans.now) c.loop-span.sums.items (search rules) (c.loop-span.invariant.within n all)
