use Rattle.std.proofs.Common.{refl}
use Rattle.ov_model.specs.Steps.{next_steps}
use Rattle.law_moves.proofs.Migrating.{does_migrate, migrate_all, migrate_broken, migrate_full, migrate_no_run, migrate_off, steps_do}
use Rattle.law_moves.proofs.migrate.steps_make_a_migrate.Goals as goal

pub returns-clause-moves : goal.returns-clause-moves
returns-clause-moves c = λ n left s w v before now old new is. steps_do n s w v before now old new left is (next_steps left v) refl

pub returns-clause-done : goal.returns-clause-done
returns-clause-done c = λ n s w v before now old new is. does_migrate n s w v before now old new is

pub returns-clause-all : goal.returns-clause-all
returns-clause-all c = λ n left taken s w v before now old new is count over. migrate_all n s w v before now old new left is taken count over

pub returns-clause-no_run : goal.returns-clause-no_run
returns-clause-no_run c =
    λ n left taken s w v m before now old new pages is count next lacks. migrate_no_run n left s w v m before now old new is next taken count pages lacks

pub returns-clause-no_record : goal.returns-clause-no_record
returns-clause-no_record c = λ n left taken s w v m before now old new is count next lacks. migrate_full n left s w v m before now old new is next taken count lacks

pub returns-clause-in_a_step : goal.returns-clause-in_a_step
returns-clause-in_a_step c = λ n left s w v m before now old mid new is next either. migrate_broken n left s w v m before now old mid is next new either

pub returns-clause-between : goal.returns-clause-between
returns-clause-between c = λ n left s w v before now old mid new is tape. migrate_off n s w v before now old mid left is new tape
