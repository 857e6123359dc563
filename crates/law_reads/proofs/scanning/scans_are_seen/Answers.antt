use Rattle.law_reads.proofs.Scanned.{is_stored, are_parents, has_rows, have_rows}
use Rattle.law_reads.proofs.scanning.scans_are_seen.Goals as goal

pub returns-clause-stored : goal.returns-clause-stored
returns-clause-stored c = is_stored

pub returns-clause-parents : goal.returns-clause-parents
returns-clause-parents c = are_parents

pub returns-clause-rows : goal.returns-clause-rows
returns-clause-rows c = has_rows

pub returns-clause-all_rows : goal.returns-clause-all_rows
returns-clause-all_rows c = have_rows
