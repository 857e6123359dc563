use Rattle.ov_optimize.proofs.Making.{split_for}
use Rattle.ov_optimize.proofs.planning.split_of.Goals as goal

pub returns : goal.returns
returns c =
    split_for c.args.d.now c.args.p c.args.q c.deref.result.now c.in_ok-tree.tree.nodes.items c.in_ok-found.found
    c.in_ok-tree.ensures.nodes c.deref.ensures.value c.in_ok-found.ensures.parts c.in_ok-found.ensures.depth c.in_ok-found.ensures.division
