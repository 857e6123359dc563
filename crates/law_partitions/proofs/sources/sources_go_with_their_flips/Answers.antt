use Rattle.law_partitions.proofs.SourceMoves.{moved_sourced, emptied}
use Rattle.law_partitions.proofs.sources.sources_go_with_their_flips.Goals as goal

pub returns-clause-kept : goal.returns-clause-kept
returns-clause-kept c = moved_sourced

pub returns-clause-emptied : goal.returns-clause-emptied
returns-clause-emptied c = λ d plan placed old pieces e is. emptied d plan placed old pieces e is
