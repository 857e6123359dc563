use Rattle.std.proofs.Common.{◌≡◌, drop, map}
use Rattle.std.specs.Prelude.{nat_le}
use Rattle.std.specs.List.{list_all}
use Rattle.ov_catalog.specs.Applying.{rows_at}
use Rattle.ov_catalog.specs.Sets.{version_in}
use Rattle.ov_catalog.proofs.targets.are_within.Given as goal

abbrev pub invariant-loop-vid : goal.invariant-loop-vid
invariant-loop-vid l =
    list_all (λ vid. nat_le (rows_at (map version_in l.versions) vid) l.size) l.vids
    ≡ list_all (λ vid. nat_le (rows_at (map version_in l.versions) vid) l.size) (drop l.vid-index l.vids)
