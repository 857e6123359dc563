use Rattle.law_runs.proofs.Stepping.{stepped_full, stepped_idle, stepped_no_run, stepped_over, stepping_looked, stepping_more, stepping_none}
use Rattle.law_runs.proofs.migration.steps_are_taken_one_by_one.Goals as goal

pub returns-clause-none : goal.returns-clause-none
returns-clause-none c = stepping_none

pub returns-clause-looked : goal.returns-clause-looked
returns-clause-looked c = λ n left w v before now old mid new is told tape. stepping_looked n left w v before now old mid is new told tape

pub returns-clause-more : goal.returns-clause-more
returns-clause-more c = λ n left w v m before now later old mid new is next step. stepping_more n left w v m before now old mid is next later new step

pub returns-clause-over : goal.returns-clause-over
returns-clause-over c = stepped_over

pub returns-clause-idle : goal.returns-clause-idle
returns-clause-idle c = stepped_idle

pub returns-clause-no_run : goal.returns-clause-no_run
returns-clause-no_run c = λ n left w v m before now old new pages is next lacks. stepped_no_run n left w v m before now old new is next pages lacks

pub returns-clause-no_record : goal.returns-clause-no_record
returns-clause-no_record c = stepped_full
