use Rattle.std.proofs.Common.{length}
use Rattle.std.proofs.lemmas.Result.{err_from_is_err_and}
use Rattle.ov_model.specs.declared.query.Fixed.TheVariants as f
use Rattle.ov_model.specs.Reading.{conj_at, unit_at, list_at}
use Rattle.ov_parse.proofs.Loop.{goes_on, ends, is_over, is_done}
use Rattle.ov_parse.specs.Scopes.{test_in}
use Rattle.ov_parse.proofs.cond.+conditions.Goals as goal

pub conjs-returns-in_default : goal.conjs-returns-in_default
conjs-returns-in_default t c = is_over f.Or (conj_at (unit_at (test_in c.args.scope) c.args.depth)) c.loop.members (length c.in_ok-first.start.now) c.loop.counter c.loop.rest.now (list_at f.Or (conj_at (unit_at (test_in c.args.scope) c.args.depth)) c.args.symbols.now) c.loop-test.true c.in_default.ensures c.loop.invariant

pub conjs-returns-in_err-member : goal.conjs-returns-in_err-member
conjs-returns-in_err-member t c =
    let p = err_from_is_err_and c.from_residual-in_err-member.result c.from_residual-in_err-member.ensures.1 in
    rw (p.1, p.2) (ends f.Or (conj_at (unit_at (test_in c.args.scope) c.args.depth)) c.in_err-member.field-0.0 c.loop.members (length c.in_ok-first.start.now) c.loop.counter c.loop.rest.now c.in-Some.after.now (list_at f.Or (conj_at (unit_at (test_in c.args.scope) c.args.depth)) c.args.symbols.now) c.loop-test.true c.in-Some.ensures c.in_err-member.ensures c.loop.invariant)

pub conjs-loop-preserved : goal.conjs-loop-preserved
conjs-loop-preserved t c =
    rw c.in_ok-push-2.ensures.ok (goes_on f.Or (conj_at (unit_at (test_in c.args.scope) c.args.depth)) c.loop.members (length c.in_ok-first.start.now) c.loop.counter c.loop.rest.now c.in-Some.after.now c.in_ok-member.member c.in_ok-member.after.now (list_at f.Or (conj_at (unit_at (test_in c.args.scope) c.args.depth)) c.args.symbols.now) c.loop-test.true c.in-Some.ensures c.in_ok-member.ensures c.loop.invariant)

pub conjs-returns : goal.conjs-returns
conjs-returns t c = is_done f.Or (conj_at (unit_at (test_in c.args.scope) c.args.depth)) c.loop.members (length c.in_ok-first.start.now) c.loop.counter c.loop.rest.now (list_at f.Or (conj_at (unit_at (test_in c.args.scope) c.args.depth)) c.args.symbols.now) c.loop-test.false c.loop.invariant

pub units-returns-in_default : goal.units-returns-in_default
units-returns-in_default t c = is_over f.And (unit_at (test_in c.args.scope) c.args.depth) c.loop.members (length c.in_ok-first.start.now) c.loop.counter c.loop.rest.now (list_at f.And (unit_at (test_in c.args.scope) c.args.depth) c.args.symbols.now) c.loop-test.true c.in_default.ensures c.loop.invariant

pub units-returns-in_err-member : goal.units-returns-in_err-member
units-returns-in_err-member t c =
    let p = err_from_is_err_and c.from_residual-in_err-member.result c.from_residual-in_err-member.ensures.1 in
    rw (p.1, p.2) (ends f.And (unit_at (test_in c.args.scope) c.args.depth) c.in_err-member.field-0.0 c.loop.members (length c.in_ok-first.start.now) c.loop.counter c.loop.rest.now c.in-Some.after.now (list_at f.And (unit_at (test_in c.args.scope) c.args.depth) c.args.symbols.now) c.loop-test.true c.in-Some.ensures c.in_err-member.ensures c.loop.invariant)

pub units-loop-preserved : goal.units-loop-preserved
units-loop-preserved t c =
    rw c.in_ok-push-2.ensures.ok (goes_on f.And (unit_at (test_in c.args.scope) c.args.depth) c.loop.members (length c.in_ok-first.start.now) c.loop.counter c.loop.rest.now c.in-Some.after.now c.in_ok-member.member c.in_ok-member.after.now (list_at f.And (unit_at (test_in c.args.scope) c.args.depth) c.args.symbols.now) c.loop-test.true c.in-Some.ensures c.in_ok-member.ensures c.loop.invariant)

pub units-returns : goal.units-returns
units-returns t c = is_done f.And (unit_at (test_in c.args.scope) c.args.depth) c.loop.members (length c.in_ok-first.start.now) c.loop.counter c.loop.rest.now (list_at f.And (unit_at (test_in c.args.scope) c.args.depth) c.args.symbols.now) c.loop-test.false c.loop.invariant
