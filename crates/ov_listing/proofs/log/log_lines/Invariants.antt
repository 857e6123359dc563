use Rattle.std.proofs.Common.{◌≡◌, ◌+◌, ◌++◌, length, map, drop}
use Rattle.ov_catalog.specs.Sets.{version_in}
use Rattle.ov_listing.specs.Listed.{version_lines}
use Rattle.ov_listing.proofs.log.log_lines.Given as goal

abbrev pub invariant-loop-version : goal.invariant-loop-version
invariant-loop-version l = record {
  count : length l.lines.items ≡ l.version-index;
  all : l.lines.items ++ version_lines (l.version-index + 1) (map version_in (drop l.version-index l.versions))
      ≡ version_lines 1 (map version_in l.versions);
}
