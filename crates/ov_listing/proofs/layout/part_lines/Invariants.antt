use Rattle.std.proofs.Common.{◌≡◌, map, take}
use Rattle.ov_catalog.specs.Sets.{part_in}
use Rattle.ov_listing.specs.Listed.{part_line}
use Rattle.ov_listing.proofs.layout.part_lines.Given as goal

abbrev pub invariant-loop-part : goal.invariant-loop-part
invariant-loop-part l = l.lines.items ≡ map (λ part. part_line (part_in part)) (take l.part-index l.parts)
