use Rattle.law_complete.proofs.Roomy.{lines_roomy}
use Rattle.law_complete.proofs.laws.nothing_is_refused_where_there_is_room.Goals as goal

pub returns : goal.returns
returns c = lines_roomy
