use Rattle.law_image.proofs.Readers.{segment_read, segment_all, rows_read}
use Rattle.law_image.proofs.reading.segments_are_read.Goals as goal

pub returns-clause-read : goal.returns-clause-read
returns-clause-read c = segment_read

pub returns-clause-all : goal.returns-clause-all
returns-clause-all c = segment_all

pub returns-clause-of_rows : goal.returns-clause-of_rows
returns-clause-of_rows c = rows_read
