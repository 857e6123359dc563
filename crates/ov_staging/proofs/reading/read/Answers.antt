use Rattle.std.proofs.Common.{◌∙◌, sym}
use Rattle.ov_staging.proofs.reading.read.Goals as goal

pub returns-in-Ok-true-clause-world : goal.returns-in-Ok-true-clause-world
returns-in-Ok-true-clause-world g c = λ w at. sym (c.in-Ok-true.ensures.world w (g.H.Host.state c.args.host.now) at) ∙ c.in-Ok-true.field-0-test

pub returns-in-Ok-clause-whole : goal.returns-in-Ok-clause-whole
returns-in-Ok-clause-whole g c = λ page told own. c.in-Ok.ensures.whole page told
