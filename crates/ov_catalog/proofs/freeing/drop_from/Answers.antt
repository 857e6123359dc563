use Rattle.std.proofs.Common.{rules}
use Rattle.std.proofs.lemmas.Fn.{filter_same}
use Rattle.ov_catalog.specs.Sets.{stays}
use Rattle.ov_catalog.proofs.freeing.drop_from.Goals as goal

pub returns-clause-left : goal.returns-clause-left
returns-clause-left c = filter_same _ (stays c.args.cvd) _ (λ x b f' k. search rules) _ _ c.retain.ensures.filtered
