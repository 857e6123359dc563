-- What WHERE says in the version is what it says.
use Rattle.ov_terms.specs.Standing.{pairs_at}
use Rattle.ov_terms.proofs.Spots.{kept-none, same-kept}
use Rattle.ov_terms.proofs.table.Table.keep_at_version.Goals as goal

pub returns-then-takes_none : goal.returns-then-takes_none
returns-then-takes_none c =
    kept-none c.args.guard.now c.in_ok-here.here c.args.self.now c.args.vid c.args.places.now (pairs_at c.args.self.now c.args.kept.now.items)
    c.in_ok-here.ensures (c.takes_none.ensures c.if-takes_none.true)

pub returns : goal.returns
returns c =
    rw (same-kept c.args.guard.now c.in_ok-here.here c.args.self.now c.args.vid c.args.places.now c.in_ok-here.ensures) at c.keep_by_spot.ensures
