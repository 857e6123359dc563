use Rattle.std.proofs.Common.{◌≡◌, map, take}
use Rattle.ov_model.specs.Joins.{wide_term}
use Rattle.ov_join.proofs.wide.wide_terms.Given as goal

abbrev pub invariant-loop-term : goal.invariant-loop-term
invariant-loop-term l = l.made.items ≡ map wide_term (take l.term-index l.terms)
