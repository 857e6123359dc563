use Rattle.std.proofs.Common.{◌∙◌}
use Rattle.ov_budget.proofs.Together.{counted}
use Rattle.ov_budget.proofs.sizes.size_of.Goals as goal

pub returns-in_ok-rids-in-None : goal.returns-in_ok-rids-in-None
returns-in_ok-rids-in-None c = c.len.ensures.count ∙ counted _ _ _ c.in_ok-rids-in-None.ensures
