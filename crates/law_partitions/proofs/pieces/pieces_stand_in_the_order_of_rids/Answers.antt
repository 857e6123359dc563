use Rattle.law_partitions.proofs.PieceOrder.{moved_ordered}
use Rattle.law_partitions.proofs.pieces.pieces_stand_in_the_order_of_rids.Goals as goal

pub returns-clause-kept : goal.returns-clause-kept
returns-clause-kept c = moved_ordered
