use Rattle.std.proofs.Common.{◌≡◌, map, take}
use Rattle.ov_terms.specs.Finding.{found_term}
use Rattle.ov_terms.specs.Standing.{pairs_at}
use Rattle.ov_terms.proofs.table.Table.terms.Given as goal

abbrev pub invariant-loop-term : goal.invariant-loop-term
invariant-loop-term l = l.cells.items ≡ map (found_term (pairs_at l.self l.group)) (take l.term-index l.terms)
