-- Each run has at least one spot.
use Rattle.std.proofs.Common.{◌<◌, ◌≤◌, length, arith}
use Rattle.ov_qrun.specs.Keys.{has_same_key}
use Rattle.ov_qrun.specs.Runs.{run_len}
use Rattle.ov_qrun.proofs.Cutting.{len-high, len-some, not-empty, runs-more}
use Rattle.ov_qrun.proofs.groups.runs.Goals as goal

pub split_at-requires : goal.split_at-requires
split_at-requires c = rw c.first_run.ensures (len-high _ c.loop-rest.rest.now)

pub loop-rest-smaller : goal.loop-rest-smaller
loop-rest-smaller c =
    let same = has_same_key c.args.table.now c.args.cols.now in
    let some : 1 ≤ run_len same c.loop-rest.rest.now = len-some same c.loop-rest.rest.now (not-empty _ c.loop-rest-test.ensures) in
    let less : length c.split_at.result.1.now < length c.loop-rest.rest.now = omega (arith, c.split_at.ensures.back_len, c.first_run.ensures, some) in
    less

pub loop-rest-preserved : goal.loop-rest-preserved
loop-rest-preserved c =
    let same = has_same_key c.args.table.now c.args.cols.now in
    rw (c.in_ok-push.ensures.items, c.split_at.ensures.back)
    (runs-more (λ run. run.now) same _ c.loop-rest.found.items c.split_at.result.0 c.loop-rest.rest.now c.first_run.result
    (not-empty _ c.loop-rest-test.ensures) c.first_run.ensures c.split_at.ensures.front c.loop-rest.invariant)
