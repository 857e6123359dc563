use Rattle.std.proofs.Common.{◌≡◌, map, take}
use Rattle.ov_terms.specs.Seeing.{cell_of}
use Rattle.ov_terms.specs.Standing.{pairs_at}
use Rattle.ov_qrun.specs.Keys.{keys_for}
use Rattle.ov_qrun.proofs.places.keys_over.Given as goal

abbrev pub invariant-loop-term : goal.invariant-loop-term
invariant-loop-term l =
    map cell_of l.keys.items ≡ keys_for (take l.term-index l.order) (pairs_at l.table l.group)
