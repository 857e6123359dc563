use Rattle.std.proofs.Common.{◌≡◌, map, take}
use Rattle.ov_graph.specs.Versions.{reduced}
use Rattle.ov_catalog.specs.Events.{graph_of}
use Rattle.ov_catalog.specs.Sets.{version_in}
use Rattle.ov_catalog.proofs.plans.tree_of.Given as goal

abbrev pub invariant-loop-version : goal.invariant-loop-version
invariant-loop-version l = l.nodes.items ≡ reduced (graph_of (map version_in (take l.version-index l.versions)))
