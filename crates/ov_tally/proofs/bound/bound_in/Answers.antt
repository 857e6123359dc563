use Rattle.std.proofs.Common.{◌≡◌, ◌+◌, inr, rules, subst, take}
use Rattle.std.specs.Prelude.{pos, ◌≤ℤ◌}
use Rattle.ov_tally.specs.Counting.{total}
use Rattle.ov_tally.proofs.Marks.{sum_next}
use Rattle.ov_tally.proofs.bound.bound_in.Goals as goal

pub returns-then-is_enough : goal.returns-then-is_enough
returns-then-is_enough c =
    let more : c.with_total-sum.result ≡ total (take (c.loop-rank.rank + 1) c.args.sums.now) = sum_next c.args.sums.now c.loop-rank.rank (pos 0) c.loop-rank.sum c.total_at.result c.with_total-sum.result (search rules) (search rules) (search rules) (search rules) in
    inr (subst (λ t. pos c.args.count ≤ℤ t) more (search rules))

pub loop-rank-preserved : goal.loop-rank-preserved
loop-rank-preserved c =
    let more : c.with_total-sum.result ≡ total (take (c.loop-rank.rank + 1) c.args.sums.now) = sum_next c.args.sums.now c.loop-rank.rank (pos 0) c.loop-rank.sum c.total_at.result c.with_total-sum.result (search rules) (search rules) (search rules) (search rules) in
    record {
      sum = search (rules, more);
      low = search rules;
      high = search rules;
    }
