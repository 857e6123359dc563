use Rattle.law_runs.proofs.Stepping.{stepped_broken, stepped_broken_off}
use Rattle.law_runs.proofs.migration.steps_may_be_broken_off.Goals as goal

pub returns-clause-in_a_step : goal.returns-clause-in_a_step
returns-clause-in_a_step c = λ n left w v m before now later old mid new is next either. stepped_broken n left w v m before now old mid is next later new either

pub returns-clause-between : goal.returns-clause-between
returns-clause-between c = λ n left w v before now later old mid new is tape. stepped_broken_off n left w v before now old mid is later new tape
