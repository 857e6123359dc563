use Rattle.law_reads.proofs.Parted.{part_of, read, only, records, agrees, rids, served}
use Rattle.law_reads.proofs.parting.partitions_are_seen.Goals as goal

pub returns-clause-one : goal.returns-clause-one
returns-clause-one c = part_of

pub returns-clause-read : goal.returns-clause-read
returns-clause-read c = read

pub returns-clause-only : goal.returns-clause-only
returns-clause-only c = only

pub returns-clause-records : goal.returns-clause-records
returns-clause-records c = records

pub returns-clause-agrees : goal.returns-clause-agrees
returns-clause-agrees c = agrees

pub returns-clause-rids : goal.returns-clause-rids
returns-clause-rids c = rids

pub returns-clause-served : goal.returns-clause-served
returns-clause-served c = served
