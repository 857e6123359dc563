use Rattle.std.proofs.Common.{◌≡◌, map, take}
use Rattle.ov_listing.proofs.log.parents_of.Given as goal

abbrev pub invariant-loop-parent : goal.invariant-loop-parent
invariant-loop-parent l = l.vids.items ≡ map (λ p. p.0) (take l.parent-index l.parents)
