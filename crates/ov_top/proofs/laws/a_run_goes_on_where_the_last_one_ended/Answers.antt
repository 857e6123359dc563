use Rattle.ov_top.specs.Ending.{course_of, course_taken}
use Rattle.ov_top.proofs.Composed.{goes_on}
use Rattle.ov_top.proofs.laws.a_run_goes_on_where_the_last_one_ended.Goals as goal

pub returns-clause-whole : goal.returns-clause-whole
returns-clause-whole c = λ steps w failed old new next told keeps played then.
    goes_on w (course_of steps w old played.space).world old new next told keeps played.settled played.stands then

pub returns-clause-taken : goal.returns-clause-taken
returns-clause-taken c = λ steps w old new next told keeps played then.
    goes_on w (course_taken steps w old new played.space).world old new next told keeps played.settled played.stands then
