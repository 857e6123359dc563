use Rattle.ov_catalog.proofs.CommitLemmas.{parent-is}
use Rattle.ov_catalog.proofs.parents.is_parent.Goals as goal

pub returns-then-weight-rows : goal.returns-then-weight-rows
returns-then-weight-rows c =
    parent-is c.args.versions.now c.args.rows c.args.edge c.index-versions-vid.result c.if-vid-eq0.false c.if-vid-versions.false c.if-weight-rows.true
