use Rattle.std.proofs.Common.{◌≡◌, length, arith}
use Rattle.ov_member.specs.Rids.{shared}
use Rattle.ov_fetch.proofs.Lacking.{shares_at, none_more}
use Rattle.ov_fetch.proofs.union.place_lacking.Goals as goal

pub returns-then-common-gt0-clause-found : goal.returns-then-common-gt0-clause-found
returns-then-common-gt0-clause-found c =
    shares_at c.args.members.now c.args.missing.now c.index-members-place.result c.loop-place.place c.loop-place-test.true c.index-members-place.is (omega (arith, c.common.ensures, c.if-common-gt0.true))

pub loop-place-preserved : goal.loop-place-preserved
loop-place-preserved c =
    let none : length (shared c.index-members-place.result c.args.missing.now) ≡ 0 = omega (arith, c.common.ensures, c.if-common-gt0.false) in
    none_more c.args.members.now c.args.missing.now c.index-members-place.result c.loop-place.place c.loop-place-test.true c.index-members-place.is none c.loop-place.invariant
