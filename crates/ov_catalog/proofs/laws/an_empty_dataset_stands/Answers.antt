use Rattle.std.proofs.Common.{[]}
use Rattle.ov_model.specs.World.{empty_world}
use Rattle.ov_catalog.specs.Worked.{empty_event, empty_move}
use Rattle.ov_catalog.proofs.Standing.{one_more, nothing_stands}
use Rattle.ov_catalog.proofs.WorkedLemmas.{empty-move}
use Rattle.ov_catalog.proofs.laws.an_empty_dataset_stands.Goals as goal

pub returns : goal.returns
returns c format r read = one_more format [] r empty_world empty_event empty_move (nothing_stands format r) (empty-move format r read)
