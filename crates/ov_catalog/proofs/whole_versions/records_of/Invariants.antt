use Rattle.std.proofs.Common.{◌≡◌, ◌≤◌, ◌+◌, ◌*◌, map, drop}
use Rattle.std.specs.List.{sum_by}
use Rattle.ov_host.specs.declared.area.Extent.{Extent}
use Rattle.ov_catalog.specs.Numbers.{VersionNumbers}
use Rattle.ov_catalog.specs.Sets.{version_in}
use Rattle.ov_catalog.specs.Wholes.{are_rows}
use Rattle.ov_catalog.proofs.whole_versions.records_of.Given as goal

abbrev pub invariant-loop-version : goal.invariant-loop-version
invariant-loop-version l = record {
  few : l.done ≤ 1000000 * l.version-index;
  rows : are_rows 0 (map version_in l.versions) ≡ are_rows l.done (map version_in (drop l.version-index l.versions));
  sum : sum_by (λ (v : VersionNumbers Extent). v.fresh) (map version_in l.versions) ≡ l.done + sum_by (λ (v : VersionNumbers Extent). v.fresh) (map version_in (drop l.version-index l.versions));
}
