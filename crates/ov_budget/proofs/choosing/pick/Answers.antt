use Rattle.std.proofs.Common.{length, sym, ◌∙◌, ap, subst, arith}
use Rattle.ov_budget.specs.Choices.{IsLeast}
use Rattle.ov_budget.proofs.Chosen.{chosen_at, chosen_best, chosen_line, least_is, none_is}
use Rattle.ov_budget.proofs.choosing.pick.Goals as goal

pub returns-in-Some-clause-there : goal.returns-in-Some-clause-there
returns-in-Some-clause-there c =
    let at = chosen_at c.args.budget c.args.table.now _ _ (sym c.choice.ensures ∙ c.in-Some.is) in
    (at.0, omega (arith, at.1, c.requires))

pub returns-in-Some-clause-best : goal.returns-in-Some-clause-best
returns-in-Some-clause-best c = chosen_best c.args.budget c.args.table.now _ _ (sym c.choice.ensures ∙ c.in-Some.is)

pub returns-in-Some-clause-choice : goal.returns-in-Some-clause-choice
returns-in-Some-clause-choice c = chosen_line c.args.budget c.args.table.now _ _ (sym c.choice.ensures ∙ c.in-Some.is)

pub returns-in-None-clause-best : goal.returns-in-None-clause-best
returns-in-None-clause-best c = (
  none_is c.args.budget c.args.table.now (sym c.choice.ensures ∙ c.in-None.is),
  subst (IsLeast c.args.table.now) (sym c.least_of.ensures) (least_is c.args.table.now (λ none. omega (arith, ap length none, c.requires))),
)
