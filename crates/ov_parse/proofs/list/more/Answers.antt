use Rattle.std.proofs.Common.{length}
use Rattle.std.proofs.lemmas.Result.{err_from_is_err_and}
use Rattle.ov_parse.proofs.Loop.{goes_on, ends, is_over, is_done}
use Rattle.ov_parse.proofs.list.more.Goals as goal

pub returns-in_default : goal.returns-in_default
returns-in_default g c = is_over c.args.between (g.T.Part.at c.args.scope) c.loop.items (length c.args.symbols.now) c.loop.counter c.loop.rest.now _ c.loop-test.true c.in_default.ensures c.loop.invariant

pub returns-in_err-item : goal.returns-in_err-item
returns-in_err-item g c =
    let p = err_from_is_err_and c.from_residual-in_err-item.result c.from_residual-in_err-item.ensures.1 in
    rw (p.1, p.2) (ends c.args.between (g.T.Part.at c.args.scope) c.in_err-item.field-0.0 c.loop.items (length c.args.symbols.now) c.loop.counter c.loop.rest.now c.in-Some.after.now _ c.loop-test.true c.in-Some.ensures c.in_err-item.ensures c.loop.invariant)

pub loop-preserved : goal.loop-preserved
loop-preserved g c =
    rw c.in_ok-push-2.ensures.ok (goes_on c.args.between (g.T.Part.at c.args.scope) c.loop.items (length c.args.symbols.now) c.loop.counter c.loop.rest.now c.in-Some.after.now c.in_ok-item.item c.in_ok-item.after.now _ c.loop-test.true c.in-Some.ensures c.in_ok-item.ensures c.loop.invariant)

pub returns : goal.returns
returns g c = is_done c.args.between (g.T.Part.at c.args.scope) c.loop.items (length c.args.symbols.now) c.loop.counter c.loop.rest.now _ c.loop-test.false c.loop.invariant
