use Rattle.std.proofs.Common.{ap, ◌∙◌}
use Rattle.ov_place.specs.Placement.{placed}
use Rattle.ov_catalog.proofs.CommitLemmas.{facts-are}
use Rattle.ov_catalog.proofs.commit.next_place.Goals as goal

pub returns : goal.returns
returns c =
    c.place.ensures
    ∙ ap placed (facts-are c.args.d.now _ c.heaviest-parent.result c.is_unmoved.result c.from.result c.stored.result c.part_serving.result c.is_unmoved.ensures c.heaviest-parent.ensures c.from.ensures c.stored.ensures c.part_serving.ensures)
