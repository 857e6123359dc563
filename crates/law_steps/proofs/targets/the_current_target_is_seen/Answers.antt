use Rattle.law_steps.proofs.Kept.{are_read, are_together, kept_long, kept_wanted, only_read, wanted_long}
use Rattle.law_steps.proofs.targets.the_current_target_is_seen.Goals as goal

pub returns-clause-read : goal.returns-clause-read
returns-clause-read c = are_read

pub returns-clause-only : goal.returns-clause-only
returns-clause-only c = λ w area s d plan contents of_world runs are. only_read w area s d plan of_world runs contents are

pub returns-clause-together : goal.returns-clause-together
returns-clause-together c = are_together

pub returns-clause-count : goal.returns-clause-count
returns-clause-count c = kept_long

pub returns-clause-within : goal.returns-clause-within
returns-clause-within c = λ w area s d plan rid of_world runs there. kept_wanted w area s d plan of_world runs rid there

pub returns-clause-size : goal.returns-clause-size
returns-clause-size c = wanted_long
