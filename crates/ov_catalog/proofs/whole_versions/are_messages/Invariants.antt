use Rattle.std.proofs.Common.{◌≡◌, map, drop, length}
use Rattle.std.specs.Prelude.{nat_le}
use Rattle.std.specs.List.{list_all}
use Rattle.ov_host.specs.declared.area.Extent.{Extent}
use Rattle.ov_catalog.specs.Numbers.{VersionNumbers}
use Rattle.ov_catalog.specs.Sets.{version_in}
use Rattle.ov_catalog.proofs.whole_versions.are_messages.Given as goal

abbrev pub invariant-loop-version : goal.invariant-loop-version
invariant-loop-version l =
    list_all (λ (v : VersionNumbers Extent). nat_le (length v.message) 1024) (map version_in l.versions)
    ≡ list_all (λ (v : VersionNumbers Extent). nat_le (length v.message) 1024) (map version_in (drop l.version-index l.versions))
