use Rattle.std.proofs.Common.{ℕ, List}
use Rattle.ov_model.specs.Act.{Session}
use Rattle.ov_model.specs.Course.{Space}
use Rattle.ov_model.specs.Formed.{AllAsk, IsAsked}
use Rattle.ov_model.specs.Forms.{Form, all_forms}
use Rattle.ov_model.specs.World.{empty_world}
use Rattle.law_partitions.proofs.CourseWhole.{each_sound}
use Rattle.ov_model.proofs.AllFormed.{all_ask}
use Rattle.law_partitions.proofs.SoundLines.{lines_name}
use Rattle.law_partitions.proofs.SoundMoves.{empty_sound}
use Rattle.law_partitions.proofs.sound.each_world_of_a_run_is_sound.Goals as goal

pub returns-clause-all : goal.returns-clause-all
returns-clause-all c = λ (steps : ℕ) (s : Session) (lines : List (List ℕ)) (space : Space) (k : ℕ).
    each_sound all_forms steps empty_world s lines space k (lines_name all_forms lines (all_ask lines)) empty_sound

pub returns-clause-asked : goal.returns-clause-asked
returns-clause-asked c = λ (forms : List Form) (steps : ℕ) (s : Session) (lines : List (List ℕ)) (space : Space) (k : ℕ) (are : AllAsk IsAsked forms lines).
    each_sound forms steps empty_world s lines space k (lines_name forms lines are) empty_sound

pub returns-clause-kept : goal.returns-clause-kept
returns-clause-kept c = each_sound

pub returns-clause-names : goal.returns-clause-names
returns-clause-names c = λ (lines : List (List ℕ)). lines_name all_forms lines (all_ask lines)

pub returns-clause-listed : goal.returns-clause-listed
returns-clause-listed c = lines_name
