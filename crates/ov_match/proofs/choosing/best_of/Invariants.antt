use Rattle.std.proofs.Common.{drop}
use Rattle.std.specs.Prelude.{option_copied}
use Rattle.ov_match.proofs.Cheapest.{SoFar}
use Rattle.ov_match.proofs.choosing.best_of.Given as goal

abbrev pub invariant-loop-candidate : goal.invariant-loop-candidate
invariant-loop-candidate l = SoFar l.target l.candidates (drop l.candidate-index l.candidates) (option_copied l.best) l.least
