use Rattle.std.proofs.Common.{refl}
use Rattle.ov_model.proofs.Choosing.{chosen_is, none_is, least_is}
use Rattle.ov_model.proofs.budget.the_choice_is_the_cheapest.Goals as goal

pub returns-clause-chosen : goal.returns-clause-chosen
returns-clause-chosen c = chosen_is

pub returns-clause-none : goal.returns-clause-none
returns-clause-none c = none_is

pub returns-clause-least : goal.returns-clause-least
returns-clause-least c = least_is

pub returns-clause-hundred : goal.returns-clause-hundred
returns-clause-hundred c = λ d. refl
