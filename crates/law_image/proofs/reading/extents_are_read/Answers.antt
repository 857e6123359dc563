use Rattle.law_image.proofs.Extents.{list_is, rows_are, short_is, whole_is}
use Rattle.law_image.proofs.reading.extents_are_read.Goals as goal

pub returns-clause-list : goal.returns-clause-list
returns-clause-list c = list_is

pub returns-clause-segment : goal.returns-clause-segment
returns-clause-segment c = rows_are

pub returns-clause-short : goal.returns-clause-short
returns-clause-short c = short_is

pub returns-clause-pages : goal.returns-clause-pages
returns-clause-pages c = whole_is
