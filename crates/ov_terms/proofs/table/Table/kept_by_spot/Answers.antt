-- One version more.
use Rattle.std.proofs.Common.{get_or, refl, arith}
use Rattle.ov_terms.specs.Finding.{is_taken}
use Rattle.ov_terms.proofs.Spots.{version-more, versions-all}
use Rattle.ov_terms.proofs.table.Table.kept_by_spot.Goals as goal

pub loop-i-preserved : goal.loop-i-preserved
loop-i-preserved c =
    version-more (is_taken c.args.guard.now) c.args.self.now c.args.vids.now c.args.picks.now c.loop-i.i (get_or c.args.vids.now c.loop-i.i 0) 0
    c.index-picks-i.result c.loop-i.kept.items _ _ (omega (arith, c.loop-i-test.true, c.requires)) c.loop-i-test.true refl c.index-picks-i.is
    (rw c.as_slice.ensures at c.in_ok-keep_at_version.ensures) c.loop-i.invariant

pub returns : goal.returns
returns c =
    versions-all (is_taken c.args.guard.now) c.args.self.now c.args.vids.now c.args.picks.now c.loop-i.i c.loop-i.kept.items _
    c.loop-i-test.false c.loop-i.invariant
