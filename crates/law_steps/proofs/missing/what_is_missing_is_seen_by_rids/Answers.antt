use Rattle.law_steps.proofs.Lacked.{count, missing_listed, next_known, next_listed, ordered, wanted}
use Rattle.law_steps.proofs.missing.what_is_missing_is_seen_by_rids.Goals as goal

pub returns-clause-wanted : goal.returns-clause-wanted
returns-clause-wanted c = λ w d vids rids reached is are same. wanted w d reached is vids rids are same

pub returns-clause-count : goal.returns-clause-count
returns-clause-count c = λ w d plan rids kept reached is runs are same. count w d reached is plan runs rids kept are same

pub returns-clause-missing : goal.returns-clause-missing
returns-clause-missing c = λ w d plan rids kept reached is runs are same. missing_listed w d reached is plan runs rids kept are same

pub returns-clause-next : goal.returns-clause-next
returns-clause-next c = λ w d plan reached is runs. next_listed w d reached is plan runs

pub returns-clause-known : goal.returns-clause-known
returns-clause-known c = next_known

pub returns-clause-ordered : goal.returns-clause-ordered
returns-clause-ordered c = λ w d plan reached is runs. ordered w d reached is plan runs
