use Rattle.std.proofs.Common.{◌∷◌}
use Rattle.ov_core.proofs.runs.free_runs.Goals as goal

pub free_run-requires-2 : goal.free_run-requires-2
free_run-requires-2 c = (c.requires.0, c.free_run.ensures (c.args.at.list ∷ c.requires.0) c.requires.1)

pub returns : goal.returns
returns c = λ live h. c.free_run-2.ensures live (c.free_run.ensures (c.args.at.list ∷ live) h)
