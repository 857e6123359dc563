use Rattle.law_partitions.proofs.PieceOrder.{waiting_count}
use Rattle.law_partitions.proofs.pieces.a_waiting_target_says_how_many_records_it_keeps.Goals as goal

pub returns : goal.returns
returns c = waiting_count
