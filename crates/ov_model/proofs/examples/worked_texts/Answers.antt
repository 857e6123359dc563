use Rattle.ov_model.proofs.Texts.{all_ask, all_print}
use Rattle.ov_model.proofs.LineageTexts.{all_lineages}
use Rattle.ov_model.proofs.examples.worked_texts.Goals as goal

pub returns-clause-ask : goal.returns-clause-ask
returns-clause-ask c = all_ask

pub returns-clause-print : goal.returns-clause-print
returns-clause-print c = all_print

pub returns-clause-lineages : goal.returns-clause-lineages
returns-clause-lineages c = all_lineages
