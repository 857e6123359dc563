-- Each group is taken where HAVING holds of it.
use Rattle.std.proofs.Common.{List, Bool}
use Rattle.ov_terms.specs.Finding.{found_holds}
use Rattle.ov_terms.specs.Standing.{pairs_at}
use Rattle.ov_terms.specs.declared.spot.Spot.{Spot}
use Rattle.ov_qrun.proofs.Filtering.{kept-all, kept-more}
use Rattle.ov_qrun.proofs.groups.held.Goals as goal

pub loop-group-preserved : goal.loop-group-preserved
loop-group-preserved c =
    let takes : List Spot → Bool = λ group. found_holds c.args.having.now (pairs_at c.args.table.now group) in
    rw c.in_ok-push_if.ensures
    (kept-more (λ group. group.now) takes c.args.groups.now _ c.loop-group.group-index _ c.holds-taken.result _ c.loop-group-test.true
    c.holds-taken.ensures c.loop-group.invariant)

pub returns : goal.returns
returns c =
    let takes : List Spot → Bool = λ group. found_holds c.args.having.now (pairs_at c.args.table.now group) in
    kept-all (λ group. group.now) takes c.args.groups.now _ c.loop-group.group-index _ c.loop-group-test.false c.loop-group.invariant
