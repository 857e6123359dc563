use Rattle.std.proofs.Common.{◌≡◌, drop}
use Rattle.ov_budget.specs.Choices.{least_of, least_stored}
use Rattle.ov_budget.proofs.choosing.least_of.Given as goal

abbrev pub invariant-loop-line : goal.invariant-loop-line
invariant-loop-line l = least_stored l.least (drop l.line-index l.rest) ≡ least_of l.table
