use Rattle.std.proofs.Common.{refl}
use Rattle.law_budget.proofs.Same.{best_is, least_is}
use Rattle.law_budget.proofs.laws.the_same_is_chosen.Goals as goal

pub returns-clause-choice : goal.returns-clause-choice
returns-clause-choice c = λ budget lines. best_is budget 1 lines

pub returns-clause-least : goal.returns-clause-least
returns-clause-least c = least_is

pub returns-clause-worth : goal.returns-clause-worth
returns-clause-worth c = λ a b present best. refl
