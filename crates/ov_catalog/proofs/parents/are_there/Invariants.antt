use Rattle.std.proofs.Common.{◌≡◌, map, drop}
use Rattle.std.specs.List.{list_all}
use Rattle.ov_catalog.specs.Applying.{is_parent}
use Rattle.ov_catalog.specs.Sets.{version_in}
use Rattle.ov_catalog.proofs.parents.are_there.Given as goal

abbrev pub invariant-loop-edge : goal.invariant-loop-edge
invariant-loop-edge l =
    list_all (is_parent (map version_in l.versions) l.rows) l.parents
    ≡ list_all (is_parent (map version_in l.versions) l.rows) (drop l.edge-index l.parents)
