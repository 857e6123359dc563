use Rattle.std.proofs.Common.{◌≡◌, map, take}
use Rattle.ov_catalog.specs.Sets.{version_in}
use Rattle.ov_lineage.specs.Related.{lists_of}
use Rattle.ov_query.proofs.Parents.{parents_in}
use Rattle.ov_query.proofs.listing.lineage_of.Given as goal

abbrev pub invariant-loop-version : goal.invariant-loop-version
invariant-loop-version l = lists_of l.parents.items ≡ take l.version-index (map parents_in (map version_in l.d.versions.items))
