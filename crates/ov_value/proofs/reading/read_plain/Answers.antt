use Rattle.ov_value.proofs.MarkLemmas.{plain_lies}
use Rattle.ov_value.proofs.reading.read_plain.Goals as goal

pub returns-clause-only : goal.returns-clause-only
returns-clause-only c row spelled = c.read_values.ensures.only row (plain_lies _ _ row spelled)
