use Rattle.std.proofs.Common.{◌≡◌, map}
use Rattle.ov_graph.specs.Versions.{reduced}
use Rattle.ov_graph.proofs.ReducedLemmas.{reduced-IsSound}
use Rattle.ov_lyre.specs.Parts.{lists_of}
use Rattle.ov_catalog.specs.Events.{graph_of}
use Rattle.ov_catalog.specs.Sets.{set_in, version_in}
use Rattle.ov_catalog.proofs.SplitLemmas.{split-is}
use Rattle.ov_catalog.proofs.plans.split_of.Goals as goal

pub split-requires-clause-sound : goal.split-requires-clause-sound
split-requires-clause-sound c =
    let d = c.args.d.now in
    rw (c.in_ok-tree.ensures, c.deref.ensures.value) (reduced-IsSound (graph_of (map version_in d.versions.items)) c.requires.set.graph)

pub returns : goal.returns
returns c =
    let d = c.args.d.now in
    let nodes : c.in_ok-tree.tree.nodes.items ≡ reduced (graph_of (map version_in d.versions.items)) = rw c.deref.ensures.value at c.in_ok-tree.ensures in
    split-is (set_in d) c.args.p c.args.q c.in_ok-tree.tree.nodes.items (lists_of c.in_ok-split.split.parts.items) nodes c.in_ok-split.ensures.parts c.in_ok-split.ensures.division
