use Rattle.std.proofs.Common.{◌≡◌, map, take}
use Rattle.ov_catalog.specs.Sets.{sets_in}
use Rattle.ov_listing.specs.Listed.{set_line}
use Rattle.ov_listing.proofs.cvds.cvd_lines.Given as goal

abbrev pub invariant-loop-d : goal.invariant-loop-d
invariant-loop-d l = l.lines.items ≡ map set_line (sets_in (take l.d-index l.sets))
