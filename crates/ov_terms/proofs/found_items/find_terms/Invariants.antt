use Rattle.std.proofs.Common.{◌≡◌, List, map, take}
use Rattle.ov_model.specs.Answers.{Pair, term_of_group}
use Rattle.ov_terms.specs.Finding.{found_term}
use Rattle.ov_terms.proofs.found_items.find_terms.Given as goal

-- the terms before say what they say by their names
abbrev pub invariant-loop-term : goal.invariant-loop-term
invariant-loop-term l = (group : List Pair) → map (found_term group) l.found.items ≡ map (term_of_group l.shape group) (take l.term-index l.terms)
