use Rattle.law_partitions.proofs.SoundMoves.{empty_sound, moved_sound, next_may}
use Rattle.law_partitions.proofs.sound.worlds_stay_sound.Goals as goal

pub returns-clause-start : goal.returns-clause-start
returns-clause-start c = empty_sound

pub returns-clause-kept : goal.returns-clause-kept
returns-clause-kept c = moved_sound

pub returns-clause-next : goal.returns-clause-next
returns-clause-next c = next_may
