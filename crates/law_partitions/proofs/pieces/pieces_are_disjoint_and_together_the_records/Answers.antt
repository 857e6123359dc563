use Rattle.law_partitions.proofs.PieceKept.{moved_pieces}
use Rattle.law_partitions.proofs.pieces.pieces_are_disjoint_and_together_the_records.Goals as goal

pub returns-clause-kept : goal.returns-clause-kept
returns-clause-kept c = moved_pieces
