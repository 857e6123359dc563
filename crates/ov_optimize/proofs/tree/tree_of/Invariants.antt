use Rattle.std.proofs.Common.{◌≡◌, map, take}
use Rattle.ov_catalog.specs.Events.{graph_of}
use Rattle.ov_catalog.specs.Sets.{version_in}
use Rattle.ov_optimize.proofs.tree.tree_of.Given as goal

abbrev pub invariant-loop-version : goal.invariant-loop-version
invariant-loop-version l = l.graph ≡ graph_of (map version_in (take l.version-index l.versions))
