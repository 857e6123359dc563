use Rattle.std.proofs.Common.{ℕ}
use Rattle.ov_model.specs.World.{World}
use Rattle.law_partitions.specs.Sound.{IsSound}
use Rattle.law_partitions.proofs.SoundMoves.{steps_come, steps_end}
use Rattle.law_partitions.proofs.sound.steps_end_all_plans.Goals as goal

pub returns-clause-left : goal.returns-clause-left
returns-clause-left c = λ (n : ℕ) (w : World) (is : IsSound w). (steps_come n w is).left

pub returns-clause-taken : goal.returns-clause-taken
returns-clause-taken c = λ (n : ℕ) (w : World) (is : IsSound w). (steps_come n w is).taken

pub returns-clause-end : goal.returns-clause-end
returns-clause-end c = steps_end
