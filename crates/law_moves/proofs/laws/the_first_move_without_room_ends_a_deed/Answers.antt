use Rattle.law_moves.proofs.Doing.{does_full, does_full_counted, does_no_run, does_no_run_counted}
use Rattle.law_moves.proofs.laws.the_first_move_without_room_ends_a_deed.Goals as goal

pub returns-clause-run : goal.returns-clause-run
returns-clause-run c = λ d s w v m left before now old new pages is silent lacks. does_no_run d w v m left before now old new is s pages silent lacks

pub returns-clause-record_ : goal.returns-clause-record_
returns-clause-record_ c = λ d s w v m left before now old new is silent lacks. does_full d w v m left before now old new is s silent lacks

pub returns-clause-run_counted : goal.returns-clause-run_counted
returns-clause-run_counted c = λ d s w v m left before now old new pages is counts lacks. does_no_run_counted d w v m left before now old new is s pages counts lacks

pub returns-clause-record_counted : goal.returns-clause-record_counted
returns-clause-record_counted c = λ d s w v m left before now old new is counts lacks. does_full_counted d w v m left before now old new is s counts lacks
