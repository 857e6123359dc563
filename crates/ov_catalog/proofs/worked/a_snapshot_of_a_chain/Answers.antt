use Rattle.std.proofs.Common.{refl}
use Rattle.ov_catalog.proofs.WorkedChains.{snapshot_follows, snapshot_says, whole_late_off, whole_rows_off, whole_placing_off, whole_plan_off, base_late_off}
use Rattle.ov_catalog.proofs.worked.a_snapshot_of_a_chain.Goals as goal

pub returns-clause-follows : goal.returns-clause-follows
returns-clause-follows c = snapshot_follows

pub returns-clause-says : goal.returns-clause-says
returns-clause-says c = snapshot_says

pub returns-clause-records : goal.returns-clause-records
returns-clause-records c = refl

pub returns-clause-whole_late : goal.returns-clause-whole_late
returns-clause-whole_late c = whole_late_off

pub returns-clause-base_late : goal.returns-clause-base_late
returns-clause-base_late c = base_late_off

pub returns-clause-whole_rows : goal.returns-clause-whole_rows
returns-clause-whole_rows c = whole_rows_off

pub returns-clause-whole_placing : goal.returns-clause-whole_placing
returns-clause-whole_placing c = whole_placing_off

pub returns-clause-whole_plan : goal.returns-clause-whole_plan
returns-clause-whole_plan c = whole_plan_off
