use Rattle.ov_graph.proofs.ReducedLemmas.{heaviest-IsKept}
use Rattle.ov_graph.proofs.laws.heaviest_is_kept.Goals as goal

pub returns : goal.returns
returns c = heaviest-IsKept
